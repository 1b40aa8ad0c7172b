use Rattle.std.proofs.Common.{◌≡◌, map, ap, rules, subst, sym, ◌∙◌, bytes_eq}
use Rattle.std.specs.Prelude.{IfOk}
use Rattle.std.specs.Map.{lookup}
use Rattle.indexmap.specs.IndexMap.{insert_entry}
use Rattle.lsys_spec.specs.Edits.{put}
use Rattle.lsys_bodies.specs.Views.{as_production}
use Rattle.lsys_rules.specs.Groups.{AreRegrouped, is_of_either}
use Rattle.lsys_rules.specs.InsideRules.{HaveOwnLabels}
use Rattle.lsys_rules.proofs.Regrouping.{groups_put}
use Rattle.lsys_rules.proofs.Labels.{own_put, productions_put, values_of}
use Rattle.lsys_rules.proofs.rule_table.RuleTable.with.Goals as goal

pub of-requires-clause-labels : goal.of-requires-clause-labels
of-requires-clause-labels c =
    let rule = c.args.rule in
    let old = c.self.inside.rules.value.by_label.entries in
    let copied = c.in_ok-by_label.ensures ∙ ap (λ v. v.by_label.entries) c.deref.ensures in
    let same : c.in_ok-clone.field-0 ≡ rule = search rules in
    let all = c.in_ok-gone.ensures.entries ∙ ap (λ es. insert_entry bytes_eq es rule.label c.in_ok-clone.field-0) copied ∙ ap (insert_entry bytes_eq old rule.label) same in
    subst (HaveOwnLabels (λ r. r.label)) (sym all) (own_put (λ r. r.label) old rule c.self.invariant.labels)

pub of-requires-clause-groups : goal.of-requires-clause-groups
of-requires-clause-groups c =
    let rule = c.args.rule in
    let kept = c.self.inside.rules.value in
    let old = kept.by_label.entries in
    let new = c.in_ok-groups.groups in
    let copied = c.in_ok-by_label.ensures ∙ ap (λ v. v.by_label.entries) c.deref.ensures in
    let same : c.in_ok-clone.field-0 ≡ rule = search rules in
    let all = c.in_ok-gone.ensures.entries ∙ ap (λ es. insert_entry bytes_eq es rule.label c.in_ok-clone.field-0) copied ∙ ap (insert_entry bytes_eq old rule.label) same in
    let stood = c.in_ok-gone.ensures.old ∙ ap (λ es. lookup (bytes_eq rule.label) es) copied in
    let seen : c.as_slice-rules.result.now ≡ values_of c.insert.new.self.entries = search rules in
    let gone = c.in_ok-gone.gone in
    groups_put kept.groups new old c.insert.new.self.entries rule.label rule gone all stood c.self.invariant.groups
    (subst (λ rs. AreRegrouped kept.groups new rs (is_of_either rule gone)) seen
    (subst (λ v. AreRegrouped v.groups new c.as_slice-rules.result.now (is_of_either rule gone)) c.deref-2.ensures c.in_ok-groups.ensures))

pub returns : goal.returns
returns c =
    let rule = c.args.rule in
    let old = c.self.inside.rules.value.by_label.entries in
    let copied = c.in_ok-by_label.ensures ∙ ap (λ v. v.by_label.entries) c.deref.ensures in
    let cloned : c.in_ok-clone.field-0 ≡ rule = search rules in
    let all = c.in_ok-gone.ensures.entries ∙ ap (λ es. insert_entry bytes_eq es rule.label c.in_ok-clone.field-0) copied ∙ ap (insert_entry bytes_eq old rule.label) cloned in
    let same = ap (λ es. map as_production (map (λ e. e.1) es)) all ∙ productions_put old rule c.self.invariant.labels ∙ ap (put (as_production rule)) c.self.view_is in
    subst (λ v. IfOk c.of.result (λ t. t ≡ v)) same c.of.ensures
