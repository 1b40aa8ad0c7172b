use Rattle.std.proofs.Common.{◌≡◌, map, ap, rules, subst, sym, ◌∙◌, bytes_eq}
use Rattle.std.specs.Prelude.{IfOk}
use Rattle.std.specs.Map.{lookup, remove_entry}
use Rattle.lsys_spec.specs.Edits.{without_rule}
use Rattle.lsys_bodies.specs.Views.{as_production}
use Rattle.lsys_rules.specs.Groups.{AreRegrouped, is_some_of}
use Rattle.lsys_rules.specs.InsideRules.{HaveOwnLabels}
use Rattle.lsys_rules.proofs.Regrouping.{groups_removed}
use Rattle.lsys_rules.proofs.Labels.{own_removed, productions_without, values_of}
use Rattle.lsys_rules.proofs.rule_table.RuleTable.without.Goals as goal

pub of-requires-clause-labels : goal.of-requires-clause-labels
of-requires-clause-labels c =
    let old = c.self.inside.rules.value.by_label.entries in
    let copied = c.in_ok-by_label.ensures ∙ ap (λ v. v.by_label.entries) c.deref.ensures in
    let all = c.shift_remove-gone.ensures.entries ∙ ap (remove_entry (bytes_eq c.args.label)) copied in
    subst (HaveOwnLabels (λ r. r.label)) (sym all) (own_removed (λ r. r.label) old c.args.label c.self.invariant.labels)

pub of-requires-clause-groups : goal.of-requires-clause-groups
of-requires-clause-groups c =
    let kept = c.self.inside.rules.value in
    let old = kept.by_label.entries in
    let new = c.in_ok-groups.groups in
    let copied = c.in_ok-by_label.ensures ∙ ap (λ v. v.by_label.entries) c.deref.ensures in
    let all = c.shift_remove-gone.ensures.entries ∙ ap (remove_entry (bytes_eq c.args.label)) copied in
    let stood = c.shift_remove-gone.ensures.value ∙ ap (λ es. lookup (bytes_eq c.args.label) es) copied in
    let seen : c.as_slice-rules.result.now ≡ values_of c.shift_remove-gone.new.self.entries = search rules in
    let gone = c.shift_remove-gone.result in
    groups_removed kept.groups new old c.shift_remove-gone.new.self.entries c.args.label gone all stood c.self.invariant.groups
    (subst (λ rs. AreRegrouped kept.groups new rs (is_some_of gone)) seen
    (subst (λ v. AreRegrouped v.groups new c.as_slice-rules.result.now (is_some_of gone)) c.deref-2.ensures c.in_ok-groups.ensures))

pub returns : goal.returns
returns c =
    let old = c.self.inside.rules.value.by_label.entries in
    let copied = c.in_ok-by_label.ensures ∙ ap (λ v. v.by_label.entries) c.deref.ensures in
    let all = c.shift_remove-gone.ensures.entries ∙ ap (remove_entry (bytes_eq c.args.label)) copied in
    let same = ap (λ es. map as_production (map (λ e. e.1) es)) all ∙ productions_without old c.args.label c.self.invariant.labels ∙ ap (without_rule c.args.label) c.self.view_is in
    subst (λ v. IfOk c.of.result (λ t. t ≡ v)) same c.of.ensures
