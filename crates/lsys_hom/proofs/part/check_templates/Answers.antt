use Rattle.std.proofs.Common.{◌∙◌, ◌+◌, ap, map, drop, sym}
use Rattle.std.proofs.lemmas.Result.{err_from_is_err_and}
use Rattle.lsys_spec.specs.Meaning.{filled}
use Rattle.lsys_expr.specs.Answers.{arith_of}
use Rattle.lsys_rewrite.proofs.After.{drop_item}
use Rattle.lsys_bodies.specs.Views.{template_of}
use Rattle.lsys_hom.specs.Parts.{fault_alone}
use Rattle.lsys_hom.proofs.Templates.{fault_after, fault_first}
use Rattle.lsys_hom.proofs.part.check_templates.Goals as goal

pub returns-in_err-check_template : goal.returns-in_err-check_template
returns-in_err-check_template c =
    let ts = c.args.templates.now in
    let bound = c.args.params.now in
    let i = c.loop-template.template-index in
    let item = c.template-item.result in
    let p = err_from_is_err_and c.from_residual.result c.from_residual.ensures.1 in
    rw (p.1, p.2)
    (fault_first (template_of item) (map template_of (drop (i + 1) ts)) bound (arith_of c.in_err-check_template.field-0.0) c.in_err-check_template.ensures
    ∙ ap (λ xs. fault_alone (filled (map template_of xs) bound)) (sym (drop_item ts i item c.loop-template-test.true c.template-item.is)) ∙ sym c.loop-template.invariant)

pub loop-template-preserved : goal.loop-template-preserved
loop-template-preserved c =
    let ts = c.args.templates.now in
    let bound = c.args.params.now in
    let i = c.loop-template.template-index in
    let item = c.template-item.result in
    c.loop-template.invariant ∙ ap (λ xs. fault_alone (filled (map template_of xs) bound)) (drop_item ts i item c.loop-template-test.true c.template-item.is)
    ∙ fault_after (template_of item) (map template_of (drop (i + 1) ts)) bound c.in_ok-check_template.ensures
