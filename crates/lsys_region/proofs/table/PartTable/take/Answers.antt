use Rattle.std.proofs.Common.{set, sym, subst, ◌∙◌}
use Rattle.lsys_region.specs.declared.packed.State.TheVariants.{Taken}
use Rattle.lsys_region.specs.Parts.{Parts, AllTaken, TakesPart}
use Rattle.lsys_region.specs.Entries.{classed, sized_parts}
use Rattle.lsys_region.specs.Rows.{entries_of_rows}
use Rattle.lsys_region.proofs.ChainLemmas.{AllTaken-none}
use Rattle.lsys_region.proofs.TableLemmas.{head_within, head_state, IsSound-take, TakesPart-head, none_from}
use Rattle.lsys_region.proofs.table.PartTable.take.Goals as goal

pub returns-in_default-clause-none : goal.returns-in_default-clause-none
returns-in_default-clause-none c =
    subst (λ (t : Parts). AllTaken t.parts c.args.class) c.self.view_is
    (AllTaken-none (classed (entries_of_rows c.self.inside.rows) c.self.inside.end) c.self.inside.heads c.args.class _ c.requires.class c.self.invariant.linked (sym c.number.ensures.same ∙ none_from _ c.in_default.not-Some))

pub get-state-requires : goal.get-state-requires
get-state-requires c = head_within (entries_of_rows c.self.inside.rows) c.self.inside.heads c.self.inside.end c.args.class c.in-Some.number _ c.requires.class c.self.invariant (sym c.in-Some.ensures.same)

pub set_state-requires-clause-within : goal.set_state-requires-clause-within
set_state-requires-clause-within c = head_within (entries_of_rows c.self.inside.rows) c.self.inside.heads c.self.inside.end c.args.class c.in-Some.number _ c.requires.class c.self.invariant (sym c.in-Some.ensures.same)

pub unreachable-requires : goal.unreachable-requires
unreachable-requires c =
    head_state (entries_of_rows c.self.inside.rows) c.self.inside.heads c.self.inside.end c.args.class c.in-Some.number _ c.requires.class c.self.invariant (sym c.in-Some.ensures.same) _ c.get-state.result c.get-state.ensures c.in_default-state.is

pub invariant_of-self : goal.invariant_of-self
invariant_of-self c =
    rw (c.set_state.ensures.set c.get-state.result c.get-state.ensures, c.set_state.ensures.most)
    (IsSound-take (entries_of_rows c.self.inside.rows) c.self.inside.heads c.self.inside.end c.args.class c.in-Some.number _ c.requires.class c.self.invariant (sym c.in-Some.ensures.same) c.get-state.result c.in-Free.next c.args.len c.get-state.ensures c.in-Free.is)

pub returns-clause-taken : goal.returns-clause-taken
returns-clause-taken c =
    let entries = entries_of_rows c.self.inside.rows in
    let entry = c.get-state.result in
    let after = sized_parts (set entries c.in-Some.number (record { start = entry.start; state = Taken c.args.len })) c.self.inside.end in
    rw (c.set_state.ensures.set entry c.get-state.ensures)
    (subst (λ (t : Parts). TakesPart t.parts after c.in-Some.number c.args.class c.args.len) c.self.view_is
    (TakesPart-head entries c.self.inside.heads c.self.inside.end c.args.class c.in-Some.number _ c.requires.class c.self.invariant (sym c.in-Some.ensures.same) entry c.in-Free.next c.args.len c.get-state.ensures c.in-Free.is))
