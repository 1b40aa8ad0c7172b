use Rattle.std.proofs.Common.{◌≡◌, ap, subst, sym, ◌∙◌}
use Rattle.std.specs.Prelude.{IfOk}
use Rattle.lsys_spec.specs.Edits.{put_own}
use Rattle.lsys_rules.specs.OwnPlaces.{place_in}
use Rattle.lsys_rules.proofs.Labels.{values_of}
use Rattle.lsys_rules.proofs.OwnOrder.{put_values, put_kept, place_within_entries}
use Rattle.lsys_rules.proofs.own_table.OwnTable.with.Goals as goal

pub insert_before-requires : goal.insert_before-requires
insert_before-requires c =
    let es = c.self.inside.lists.value.by_table.entries in
    let t = c.table-table.result in
    let copied : c.in_ok-by_table.by_table.entries ≡ es = c.in_ok-by_table.ensures ∙ ap (λ v. v.by_table.entries) c.deref.ensures in
    let found : c.place_of-place.result ≡ place_in (values_of es) t = c.place_of-place.ensures ∙ ap (λ os. place_in os t) (c.lists.ensures ∙ sym c.self.view_is) in
    rw (copied, found) (place_within_entries t es)

pub of-requires : goal.of-requires
of-requires c =
    let es = c.self.inside.lists.value.by_table.entries in
    let t = c.table-table.result in
    let copied = c.in_ok-by_table.ensures ∙ ap (λ v. v.by_table.entries) c.deref.ensures in
    let found = c.place_of-place.ensures ∙ ap (λ os. place_in os t) (c.lists.ensures ∙ sym c.self.view_is) in
    let kept = put_kept c.args.list t c.place_of-place.result c.in_ok-insert_before.field-0.0 es _ _ (sym c.table-table.ensures) copied c.in_ok-insert_before.ensures.index found c.in_ok-insert_before.ensures.entries c.self.invariant.tables c.self.invariant.ordered in
    record { tables = kept.0; ordered = kept.1 }

pub returns : goal.returns
returns c =
    let es = c.self.inside.lists.value.by_table.entries in
    let t = c.table-table.result in
    let copied = c.in_ok-by_table.ensures ∙ ap (λ v. v.by_table.entries) c.deref.ensures in
    let found = c.place_of-place.ensures ∙ ap (λ os. place_in os t) (c.lists.ensures ∙ sym c.self.view_is) in
    let all = put_values c.args.list t c.place_of-place.result c.in_ok-insert_before.field-0.0 es _ _ (sym c.table-table.ensures) copied c.in_ok-insert_before.ensures.index found c.in_ok-insert_before.ensures.entries c.self.invariant.tables c.self.invariant.ordered in
    subst (λ v. IfOk c.of.result (λ t. t ≡ v)) (all ∙ ap (put_own c.args.list) c.self.view_is) c.of.ensures
