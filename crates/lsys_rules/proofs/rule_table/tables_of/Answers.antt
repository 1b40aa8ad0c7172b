use Rattle.std.proofs.Common.{[], ◌∷◌, ◌++◌, map, ap, ◌∙◌, sym}
use Rattle.std.proofs.lemmas.List.{drop_all}
use Rattle.lsys_spec.specs.Systems.{tables_onto}
use Rattle.lsys_bodies.specs.Views.{as_production}
use Rattle.lsys_rules.proofs.Tables.{tables_step}
use Rattle.lsys_rules.proofs.rule_table.tables_of.Goals as goal

pub loop-rule-init : goal.loop-rule-init
loop-rule-init c = ap (λ ts. tables_onto ts (map as_production c.args.rules.now)) (c.in_ok-push.ensures.items ∙ ap (λ ts. ts ++ c.from_text.result ∷ []) c.new-tables.ensures.items ∙ ap (λ w. w ∷ []) c.from_text.ensures)

pub loop-rule-preserved : goal.loop-rule-preserved
loop-rule-preserved c = tables_step c.args.rules.now c.loop-rule.rule-index c.rule-item.result c.loop-rule.tables.items _ _ c.loop-rule-test.true c.rule-item.is c.loop-rule.invariant c.in_ok-add_table.ensures

pub returns : goal.returns
returns c = ap (λ rs. tables_onto c.loop-rule.tables.items (map as_production rs)) (sym (drop_all c.loop-rule.rule-index c.args.rules.now c.loop-rule-test.false)) ∙ c.loop-rule.invariant
