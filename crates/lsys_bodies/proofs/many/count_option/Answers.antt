use Rattle.std.proofs.Common.{◌∷◌, [], ◌∙◌, sym}
use Rattle.std.proofs.lemmas.Result.{err_from_is_err_and}
use Rattle.lsys_syntax.specs.Pieces.{blank, token}
use Rattle.lsys_syntax.specs.Expressions.{expr_kinds, expr_pieces}
use Rattle.lsys_reading.specs.Spans.{expr_at}
use Rattle.lsys_bodies.proofs.Counted.{counts-on, counts-passed, counts-blank}
use Rattle.lsys_bodies.proofs.CountLoops.{span-size}
use Rattle.lsys_bodies.proofs.many.count_option.Goals as goal

pub returns-in_err-marked-in-Some : goal.returns-in_err-marked-in-Some
returns-in_err-marked-in-Some c k ks h =
    let p = err_from_is_err_and c.from_residual.result c.from_residual.ensures.1 in
    let e = expr_pieces (expr_at ks c.in-Some.span) in
    rw (p.1, p.2, c.in-Some.is) (counts-on (blank ∷ []) (token k ∷ blank ∷ e) (counts-blank c.args.counter) (counts-passed (token k ∷ []) (blank ∷ e) (c.in_err-marked-in-Some.ensures.counted k)))

pub returns-in_ok-marked-in-Some : goal.returns-in_ok-marked-in-Some
returns-in_ok-marked-in-Some c k ks h =
    let s = c.in-Some.span in
    let e = expr_pieces (expr_at ks s) in
    let here = rw c.in-Some.is at h in
    rw c.in-Some.is (counts-on (blank ∷ []) (token k ∷ blank ∷ e) (counts-blank c.args.counter)
    (counts-on (token k ∷ []) (blank ∷ e) (c.in_ok-marked-in-Some.ensures.counted k)
    (counts-on (blank ∷ []) e (counts-blank c.in_ok-marked-in-Some.marked) (c.expression.ensures (expr_kinds (expr_at ks s)) (span-size ks s here ∙ sym c.size.ensures)))))
