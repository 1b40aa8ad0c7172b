use Rattle.std.proofs.Common.{rules, ◌∙◌, sym, bytes_eq}
use Rattle.std.proofs.lemmas.Iterator.{YieldsList-from_slice}
use Rattle.std.proofs.lemmas.Iterator.Search.{any_from_yields_List}
use Rattle.lsys_bodies.specs.declared.rule.Rule.{Rule}
use Rattle.lsys_syntax.specs.Rules.{Production}
use Rattle.lsys_bodies.specs.Views.{as_production}
use Rattle.lsys_rules.proofs.Tables.{any_same, any_map}
use Rattle.lsys_rules.proofs.labelled.has_rule.Goals as goal

pub returns : goal.returns
returns c =
    any_from_yields_List (λ (q : Rule). bytes_eq q.label c.args.label) _ _ _ c.any.ensures.ran (YieldsList-from_slice c.args.rules.now cc) (λ x b q k. search rules)
    ∙ any_map (λ (q : Production). bytes_eq q.label c.args.label) as_production c.args.rules.now ∙ sym (any_same (λ (q : Production). bytes_eq q.label c.args.label) _)
