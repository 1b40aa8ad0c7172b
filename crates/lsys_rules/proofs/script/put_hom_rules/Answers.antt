use Rattle.std.proofs.Common.{◌+◌, drop, map, List}
use Rattle.std.proofs.lemmas.List.{take_all}
use Rattle.lsys_io.proofs.Puts.{puts_nothing, puts_then, puts_failed}
use Rattle.lsys_spec.specs.Shown.{as_put_homomorphism, script_of}
use Rattle.lsys_bodies.specs.declared.rule.HomRule.{HomRule}
use Rattle.lsys_bodies.specs.Views.{homomorphism_of}
use Rattle.lsys_rules.specs.Showing.{script_line}
use Rattle.lsys_rules.proofs.ShownTexts.{gathered-step, gathered-rest, script_gathers}
use Rattle.lsys_rules.proofs.script.put_hom_rules.Goals as goal

pub loop-rule-init : goal.loop-rule-init
loop-rule-init g c = record { put = puts_nothing }

pub loop-rule-preserved : goal.loop-rule-preserved
loop-rule-preserved g c = record {
  put = rw (gathered-step (λ (xs : List HomRule). script_of (map as_put_homomorphism (map homomorphism_of xs))) (λ (r : HomRule). script_line (as_put_homomorphism (homomorphism_of r))) (script_gathers as_put_homomorphism homomorphism_of) c.args.rules.now c.loop-rule.rule-index c.rule-item.result c.loop-rule-test.true c.rule-item.is) (puts_then c.loop-rule.invariant.put c.in_ok-put_hom_rule.ensures);
}

pub returns-in_err-put_hom_rule : goal.returns-in_err-put_hom_rule
returns-in_err-put_hom_rule g c =
    let items = c.args.rules.now in
    let i = c.loop-rule.rule-index in
    rw (gathered-rest (λ (xs : List HomRule). script_of (map as_put_homomorphism (map homomorphism_of xs))) (λ (r : HomRule). script_line (as_put_homomorphism (homomorphism_of r))) (script_gathers as_put_homomorphism homomorphism_of) items (i + 1), gathered-step (λ (xs : List HomRule). script_of (map as_put_homomorphism (map homomorphism_of xs))) (λ (r : HomRule). script_line (as_put_homomorphism (homomorphism_of r))) (script_gathers as_put_homomorphism homomorphism_of) items i c.rule-item.result c.loop-rule-test.true c.rule-item.is)
    (puts_failed ((λ (xs : List HomRule). script_of (map as_put_homomorphism (map homomorphism_of xs))) (drop (i + 1) items)) c.from_residual.ensures.0 (puts_then c.loop-rule.invariant.put c.in_err-put_hom_rule.ensures))

pub returns : goal.returns
returns g c = rw (← take_all c.loop-rule.rule-index c.args.rules.now c.loop-rule-test.false) c.loop-rule.invariant.put
