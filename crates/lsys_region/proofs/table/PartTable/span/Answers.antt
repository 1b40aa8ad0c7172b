use Rattle.std.proofs.Common.{sym, subst}
use Rattle.lsys_region.specs.Parts.{Parts, IsTakenPart, IsPartSpan}
use Rattle.lsys_region.specs.Rows.{entries_of_rows}
use Rattle.lsys_region.proofs.TableLemmas.{taken_below, not_free, taken_entry, IsPartSpan-entry}
use Rattle.lsys_region.proofs.table.PartTable.span.Goals as goal

pub get-entry-requires : goal.get-entry-requires
get-entry-requires c = taken_below (entries_of_rows c.self.inside.rows) c.self.inside.end c.args.number (subst (λ (t : Parts). IsTakenPart t.parts c.args.number) (sym c.self.view_is) c.requires)

pub unreachable-requires : goal.unreachable-requires
unreachable-requires c =
    not_free (entries_of_rows c.self.inside.rows) c.self.inside.end c.args.number (subst (λ (t : Parts). IsTakenPart t.parts c.args.number) (sym c.self.view_is) c.requires) c.get-entry.result _ c.get-entry.ensures c.in-Free.is

pub returns : goal.returns
returns c =
    let taken = subst (λ (t : Parts). IsTakenPart t.parts c.args.number) (sym c.self.view_is) c.requires in
    let held = taken_entry (entries_of_rows c.self.inside.rows) c.self.inside.end c.args.number taken c.get-entry.result c.in-Taken.len c.get-entry.ensures c.in-Taken.is in
    subst (λ (t : Parts). IsPartSpan t.parts c.args.number c.get-entry.result.start c.in-Taken.len) c.self.view_is
    (IsPartSpan-entry (entries_of_rows c.self.inside.rows) c.self.inside.end c.args.number c.get-entry.result c.in-Taken.len held)
