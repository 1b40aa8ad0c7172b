use Rattle.std.proofs.Common.{◌≡◌, ap, subst, ◌∙◌, bytes_eq}
use Rattle.std.specs.Prelude.{IfOk}
use Rattle.std.specs.Map.{remove_entry}
use Rattle.lsys_spec.specs.Edits.{without_own}
use Rattle.lsys_rules.proofs.Labels.{values_of}
use Rattle.lsys_rules.proofs.OwnOrder.{lists_removed, removed_kept}
use Rattle.lsys_rules.proofs.own_table.OwnTable.without.Goals as goal

pub of-requires : goal.of-requires
of-requires c =
    let es = c.self.inside.lists.value.by_table.entries in
    let copied = c.in_ok-by_table.ensures ∙ ap (λ v. v.by_table.entries) c.deref.ensures in
    let all = c.shift_remove.ensures.entries ∙ ap (remove_entry (bytes_eq c.args.table)) copied in
    let kept = removed_kept es _ c.args.table all c.self.invariant.tables c.self.invariant.ordered in
    record { tables = kept.0; ordered = kept.1 }

pub returns : goal.returns
returns c =
    let es = c.self.inside.lists.value.by_table.entries in
    let copied = c.in_ok-by_table.ensures ∙ ap (λ v. v.by_table.entries) c.deref.ensures in
    let all = c.shift_remove.ensures.entries ∙ ap (remove_entry (bytes_eq c.args.table)) copied in
    let same = ap values_of all ∙ lists_removed es c.args.table c.self.invariant.tables ∙ ap (without_own c.args.table) c.self.view_is in
    subst (λ v. IfOk c.of.result (λ t. t ≡ v)) same c.of.ensures
