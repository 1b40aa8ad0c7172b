use Rattle.std.proofs.Common.{◌∙◌, sym, get_or}
use Rattle.std.proofs.lemmas.Result.{err_from_is_err_and}
use Rattle.lsys_syntax.specs.Tokens.{Comma}
use Rattle.lsys_syntax.specs.Expressions.{expr_kinds, expr_pieces}
use Rattle.lsys_reading.specs.Spans.{expr_at}
use Rattle.lsys_reading.specs.declared.span.ExprSpan.{ExprSpan}
use Rattle.lsys_bodies.proofs.Searches.{copied-item, spans-item}
use Rattle.lsys_bodies.proofs.CountLoops.{marked, marked-more, marked-passed, marked-done, span-size}
use Rattle.lsys_bodies.proofs.many.count_params.Goals as goal

abbrev none : ExprSpan
none = record { from = 0; to = 0 }

pub returns-in_err-counted : goal.returns-in_err-counted
returns-in_err-counted c ks h =
    let xs = c.args.params.now in
    let i = c.loop-param.param-index in
    let s = get_or xs i none in
    let item = copied-item xs i none c.loop-param-test.true in
    let p = err_from_is_err_and c.from_residual.result c.from_residual.ensures.1 in
    rw (p.1, p.2) (marked-passed expr_pieces (expr_at ks) (marked expr_pieces (expr_at ks) xs) xs i s c.loop-param-test.true item (c.loop-param.invariant ks h)
    (c.in_err-counted.ensures Comma (expr_kinds (expr_at ks s)) (span-size ks s (spans-item ks xs i s c.loop-param-test.true item h) ∙ sym c.size.ensures)))

pub loop-param-preserved : goal.loop-param-preserved
loop-param-preserved c ks h =
    let xs = c.args.params.now in
    let i = c.loop-param.param-index in
    let s = get_or xs i none in
    let item = copied-item xs i none c.loop-param-test.true in
    marked-more expr_pieces (expr_at ks) (marked expr_pieces (expr_at ks) xs) xs i s c.loop-param-test.true item (c.loop-param.invariant ks h)
    (c.in_ok-counted.ensures Comma (expr_kinds (expr_at ks s)) (span-size ks s (spans-item ks xs i s c.loop-param-test.true item h) ∙ sym c.size.ensures))

pub returns : goal.returns
returns c ks h =
    let xs = c.args.params.now in
    marked-done expr_pieces (expr_at ks) (marked expr_pieces (expr_at ks) xs) xs c.loop-param.param-index c.loop-param-test.false (c.loop-param.invariant ks h)
