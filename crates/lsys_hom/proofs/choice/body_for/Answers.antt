use Rattle.std.proofs.Common.{rules, ◌∙◌}
use Rattle.lsys_hom.specs.Parts.{module_with}
use Rattle.lsys_hom.proofs.Rules.{rule_at}
use Rattle.lsys_hom.proofs.choice.body_for.Goals as goal

pub returns-then-branch : goal.returns-then-branch
returns-then-branch c =
    c.loop-rule.invariant ∙ rule_at c.args.rules.now c.loop-rule.rule-index c.rule-item.result (module_with c.args.name c.args.params.now) c.applies.result c.loop-rule-test.true c.rule-item.is c.applies.ensures ∙ search rules

pub returns-in_err-applies : goal.returns-in_err-applies
returns-in_err-applies c =
    c.loop-rule.invariant ∙ rule_at c.args.rules.now c.loop-rule.rule-index c.rule-item.result (module_with c.args.name c.args.params.now) c.applies.result c.loop-rule-test.true c.rule-item.is c.applies.ensures ∙ search rules

pub loop-rule-preserved : goal.loop-rule-preserved
loop-rule-preserved c =
    c.loop-rule.invariant ∙ rule_at c.args.rules.now c.loop-rule.rule-index c.rule-item.result (module_with c.args.name c.args.params.now) c.applies.result c.loop-rule-test.true c.rule-item.is c.applies.ensures ∙ search rules
