use Rattle.std.proofs.Common.{map, ap, ◌∙◌}
use Rattle.std.specs.Prelude.{filter}
use Rattle.lsys_spec.specs.Bodies.{is_for}
use Rattle.lsys_module.specs.Views.{module_name}
use Rattle.lsys_bodies.specs.Views.{as_production}
use Rattle.lsys_rules.specs.Groups.{rules_at}
use Rattle.lsys_rules.proofs.Grouping.{group_found}
use Rattle.lsys_rules.proofs.rule_table.RuleTable.group.Goals as goal

pub returns : goal.returns
returns c =
    let a = c.args in
    let kept = c.self.inside.rules.value in
    let rs = map (λ e. e.1) kept.by_label.entries in
    ap (map as_production) (c.rules_at.ensures ∙ ap (λ v. rules_at v.groups c.new.result) c.deref.ensures)
    ∙ group_found kept.groups rs c.new.result a.table a.name a.arity c.self.invariant.groups c.new.ensures.table c.new.ensures.name c.new.ensures.arity c.new.ensures.form
    ∙ ap (filter (is_for a.table (module_name a.name) a.arity)) c.self.view_is
