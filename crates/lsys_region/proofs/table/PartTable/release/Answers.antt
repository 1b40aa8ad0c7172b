use Rattle.std.proofs.Common.{set, get_or, refl, sym, subst, arith}
use Rattle.lsys_region.specs.declared.packed.State.TheVariants.{Free}
use Rattle.lsys_region.specs.Parts.{Parts, IsTakenPart, IsPartSpan, FreesPart}
use Rattle.lsys_region.specs.Layout.{HaveRooms}
use Rattle.lsys_region.specs.Entries.{sized_parts}
use Rattle.lsys_region.specs.Rows.{entries_of_rows}
use Rattle.lsys_region.proofs.RoomLemmas.{room_filled}
use Rattle.lsys_region.proofs.TableLemmas.{taken_below, most_bounded, span_found, span_entry, part_length, head_told, class_of-entry, IsSound-release, FreesPart-entry}
use Rattle.lsys_region.proofs.table.PartTable.release.Goals as goal

pub class_of-class-requires-clause-filled : goal.class_of-class-requires-clause-filled
class_of-class-requires-clause-filled c =
    let span = c.span-span.ensures in
    room_filled c.span-span.result.len span.class (c.requires.rooms c.args.number _ c.span-span.result.len span.here refl)

pub class_of-class-requires-clause-bounded : goal.class_of-class-requires-clause-bounded
class_of-class-requires-clause-bounded c =
    let span = subst (λ (t : Parts). IsPartSpan t.parts c.args.number c.span-span.result.start c.span-span.result.len) (sym c.self.view_is) c.span-span.ensures in
    let rooms = subst (λ (t : Parts). HaveRooms t.parts) (sym c.self.view_is) c.requires.rooms in
    part_length (entries_of_rows c.self.inside.rows) c.self.inside.heads c.self.inside.end c.args.number c.span-span.result.start c.span-span.result.len span rooms c.self.invariant

pub set_state-requires-clause-within : goal.set_state-requires-clause-within
set_state-requires-clause-within c = taken_below (entries_of_rows c.self.inside.rows) c.self.inside.end c.args.number (subst (λ (t : Parts). IsTakenPart t.parts c.args.number) (sym c.self.view_is) c.requires.taken)

pub set_state-requires-clause-small : goal.set_state-requires-clause-small
set_state-requires-clause-small c =
    head_told (entries_of_rows c.self.inside.rows) c.self.inside.heads c.self.inside.end c.class_of-class.result.number c.index-self-class.result c.class_of-class.result.below c.self.invariant

pub to-requires : goal.to-requires
to-requires c =
    let within = taken_below (entries_of_rows c.self.inside.rows) c.self.inside.end c.args.number (subst (λ (t : Parts). IsTakenPart t.parts c.args.number) (sym c.self.view_is) c.requires.taken) in
    omega (arith, c.self.invariant.few, c.self.invariant.below, most_bounded c.self.inside.rows)

pub invariant_of-self : goal.invariant_of-self
invariant_of-self c =
    let entries = entries_of_rows c.self.inside.rows in
    let end = c.self.inside.end in
    let len = c.span-span.result.len in
    let span = subst (λ (t : Parts). IsPartSpan t.parts c.args.number c.span-span.result.start len) (sym c.self.view_is) c.span-span.ensures in
    let rooms = subst (λ (t : Parts). HaveRooms t.parts) (sym c.self.view_is) c.requires.rooms in
    let found = span_found entries end c.args.number c.span-span.result.start len span in
    let held = span_entry entries end c.args.number c.span-span.result.start len found.0 span found.1 in
    let class = class_of-entry entries end c.args.number found.0 len held c.class_of-class.result.number c.class_of-class.result.room rooms c.class_of-class.ensures c.class_of-class.result.power in
    rw (c.set_state.ensures.set found.0 found.1, c.set_state.ensures.most, c.to.ensures)
    (IsSound-release entries end c.args.number found.0 len held c.self.inside.heads c.class_of-class.result.number c.index-self-class.result class c.self.invariant)

pub returns-clause-freed : goal.returns-clause-freed
returns-clause-freed c =
    let entries = entries_of_rows c.self.inside.rows in
    let end = c.self.inside.end in
    let len = c.span-span.result.len in
    let span = subst (λ (t : Parts). IsPartSpan t.parts c.args.number c.span-span.result.start len) (sym c.self.view_is) c.span-span.ensures in
    let found = span_found entries end c.args.number c.span-span.result.start len span in
    let held = span_entry entries end c.args.number c.span-span.result.start len found.0 span found.1 in
    let next = get_or c.self.inside.heads c.class_of-class.result.number c.index-self-class.result in
    rw (c.set_state.ensures.set found.0 found.1)
    (subst (λ (t : Parts). FreesPart t.parts (sized_parts (set entries c.args.number (record { start = found.0.start; state = Free next })) end) c.args.number) c.self.view_is
    (FreesPart-entry entries end c.args.number found.0 len held next))
