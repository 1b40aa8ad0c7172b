use Rattle.std.proofs.Common.{get_or, []}
use Rattle.std.proofs.lemmas.Result.{err_from_is_err_and}
use Rattle.lsys_syntax.specs.Tokens.{Comma, Name}
use Rattle.lsys_syntax.specs.Rules.{formal_pieces}
use Rattle.lsys_text.specs.Tokens.{name_of}
use Rattle.lsys_bodies.proofs.Searches.{copied-item}
use Rattle.lsys_bodies.proofs.CountLoops.{marked, marked-more, marked-passed, marked-done}
use Rattle.lsys_bodies.proofs.many.count_formals.Goals as goal

pub returns-in_err-counted : goal.returns-in_err-counted
returns-in_err-counted c =
    let xs = c.args.formals.now in
    let i = c.loop-formal._formal-index in
    let p = err_from_is_err_and c.from_residual.result c.from_residual.ensures.1 in
    rw (p.1, p.2) (marked-passed formal_pieces name_of (marked formal_pieces name_of xs) xs i (get_or xs i []) c.loop-formal-test.true (copied-item xs i [] c.loop-formal-test.true) c.loop-formal.invariant (c.in_err-counted.ensures Comma (Name (name_of (get_or xs i [])))))

pub loop-formal-preserved : goal.loop-formal-preserved
loop-formal-preserved c =
    let xs = c.args.formals.now in
    let i = c.loop-formal._formal-index in
    marked-more formal_pieces name_of (marked formal_pieces name_of xs) xs i (get_or xs i []) c.loop-formal-test.true (copied-item xs i [] c.loop-formal-test.true) c.loop-formal.invariant (c.in_ok-counted.ensures Comma (Name (name_of (get_or xs i []))))

pub returns : goal.returns
returns c =
    let xs = c.args.formals.now in
    marked-done formal_pieces name_of (marked formal_pieces name_of xs) xs c.loop-formal._formal-index c.loop-formal-test.false c.loop-formal.invariant
