use Rattle.std.proofs.Common.{◌≤◌, ◌+◌, List, length, ap, arith, subst, ◌∙◌}
use Rattle.std.specs.Prelude.{filter}
use Rattle.std.specs.Option.{option_map}
use Rattle.lsys_syntax.specs.Limits.{most_rules}
use Rattle.lsys_spec.specs.Bodies.{is_for, table_at}
use Rattle.lsys_module.specs.Views.{module_name}
use Rattle.lsys_bodies.specs.declared.rule.Rule.{Rule}
use Rattle.lsys_rules.specs.declared.parts.SystemParts.{SystemParts}
use Rattle.lsys_rules.specs.Groups.{rules_or_none}
use Rattle.lsys_rules.proofs.Grouping.{few_found, group_few, group_meant}
use Rattle.lsys_rules.proofs.system.System.group.Goals as goal

pub returns-clause-rules : goal.returns-clause-rules
returns-clause-rules c =
    let a = c.args in
    c.group.ensures ∙ ap (λ (p : SystemParts). filter (is_for c.table.result (module_name a.name) a.arity) p.rules) c.deref.ensures
    ∙ ap (λ t. filter (is_for t (module_name a.name) a.arity) c.self.inside.parts.value.rules) c.table.ensures
    ∙ ap (λ s. filter (is_for (table_at a.self.now.schedule a.level) (module_name a.name) a.arity) s.rules) c.self.view_is

pub returns-clause-bodies : goal.returns-clause-bodies
returns-clause-bodies c =
    let rules : List Rule = rules_or_none (option_map (λ g. g.now) c.group.result) in
    group_meant (table_at c.args.self.now.schedule c.args.level) (module_name c.args.name) c.args.arity c.args.self.now.rules rules (returns-clause-rules c)

pub returns-clause-few : goal.returns-clause-few
returns-clause-few c =
    let rules : List Rule = rules_or_none (option_map (λ g. g.now) c.group.result) in
    let few = group_few (table_at c.args.self.now.schedule c.args.level) (module_name c.args.name) c.args.arity c.args.self.now.rules rules (returns-clause-rules c) in
    let most = subst (λ s. length s.rules + length s.homomorphisms ≤ most_rules) c.self.view_is c.self.invariant.0.few_rules in
    few_found (λ g. g.now) c.group.result most_rules (omega (arith, few, most))
