use Rattle.std.proofs.Common.{◌∙◌, ◌+◌, ap, map, drop, sym}
use Rattle.std.proofs.lemmas.Result.{err_from_is_err_and}
use Rattle.lsys_spec.specs.Meaning.{filled_params}
use Rattle.lsys_spec.specs.Values.{value}
use Rattle.lsys_expr.specs.Answers.{arith_of}
use Rattle.lsys_rewrite.proofs.After.{drop_item}
use Rattle.lsys_bodies.specs.Views.{tree_in}
use Rattle.lsys_hom.specs.Parts.{fault_alone}
use Rattle.lsys_hom.proofs.Templates.{params_after, params_first}
use Rattle.lsys_hom.proofs.part.check_params.Goals as goal

pub returns-in_err-eval : goal.returns-in_err-eval
returns-in_err-eval c =
    let es = c.args.exprs.now in
    let bound = c.args.params.now in
    let i = c.loop-expr.expr-index in
    let item = c.expr-item.result in
    let p = err_from_is_err_and c.from_residual.result c.from_residual.ensures.1 in
    rw (p.1, p.2)
    (params_first (arith_of c.in_err-eval.field-0.0) (value (tree_in item) bound) (filled_params (map tree_in (drop (i + 1) es)) bound) c.in_err-eval.ensures
    ∙ ap (λ xs. fault_alone (filled_params (map tree_in xs) bound)) (sym (drop_item es i item c.loop-expr-test.true c.expr-item.is)) ∙ sym c.loop-expr.invariant)

pub loop-expr-preserved : goal.loop-expr-preserved
loop-expr-preserved c =
    let es = c.args.exprs.now in
    let bound = c.args.params.now in
    let i = c.loop-expr.expr-index in
    let item = c.expr-item.result in
    c.loop-expr.invariant ∙ ap (λ xs. fault_alone (filled_params (map tree_in xs) bound)) (drop_item es i item c.loop-expr-test.true c.expr-item.is)
    ∙ params_after c.in_ok-eval.field-0 (value (tree_in item) bound) (filled_params (map tree_in (drop (i + 1) es)) bound) c.in_ok-eval.ensures
