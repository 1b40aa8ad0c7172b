use Rattle.std.proofs.Common.{◌+◌, ◌<◌, ◌≤◌, ◌∷◌, [], ◌++◌, length, sym, subst}
use Rattle.lsys_region.specs.declared.packed.State.TheVariants.{Taken}
use Rattle.lsys_region.specs.Parts.{Parts, AddsPart}
use Rattle.lsys_region.specs.Entries.{sized_parts}
use Rattle.lsys_region.specs.Rows.{entries_of_rows, capacity_of}
use Rattle.lsys_region.proofs.TableLemmas.{length-parts_of, IsSound-add, AddsPart-end}
use Rattle.lsys_region.proofs.table.PartTable.add.Goals as goal

pub push-requires-clause-room : goal.push-requires-clause-room
push-requires-clause-room c =
    let seen : length (sized_parts (entries_of_rows c.self.inside.rows) c.self.inside.end) < capacity_of c.self.inside.rows = subst (λ (t : Parts). length t.parts < t.capacity) (sym c.self.view_is) c.requires.room in
    rw (length-parts_of (entries_of_rows c.self.inside.rows) c.self.inside.end) at seen

pub invariant_of-self : goal.invariant_of-self
invariant_of-self c =
    let places = subst (λ (t : Parts). t.end + c.args.class.room ≤ t.most) (sym c.self.view_is) c.requires.places in
    rw (c.push.ensures.pushed, c.push.ensures.most)
    (IsSound-add (entries_of_rows c.self.inside.rows) c.self.inside.end c.args.class.number c.args.class.room c.args.len c.args.class.power c.self.inside.heads c.args.class.below places c.self.invariant)

pub returns-clause-added : goal.returns-clause-added
returns-clause-added c =
    let entries = entries_of_rows c.self.inside.rows in
    let end = c.self.inside.end in
    let after = sized_parts (entries ++ record { start = end; state = Taken c.args.len } ∷ []) (end + c.args.class.room) in
    rw c.push.ensures.pushed
    (subst (λ (t : Parts). AddsPart t.parts after c.len-number.result t.end c.args.class.number c.args.len) c.self.view_is
    (AddsPart-end entries end c.args.class.number c.args.class.room c.args.len c.args.class.power c.len-number.result c.len-number.ensures))
