use Rattle.std.proofs.Common.{◌≡◌, refl, sym, ap, ◌∙◌, subst, arith}
use Rattle.lsys_forest.specs.Changes.{undone}
use Rattle.lsys_forest.specs.Stocks.{Stock, nodes_of, changes_of}
use Rattle.lsys_forest.specs.Slots.{live_slots}
use Rattle.lsys_forest.specs.Groves.{IsRooted, Grove, now_of, changes_in, rest_of, IsGrove, Spends, KeepsSpares}
use Rattle.lsys_forest.specs.Rows.{complete_levels}
use Rattle.lsys_forest.proofs.GroveLemmas.{sound_now}
use Rattle.lsys_forest.proofs.ViewLemmas.{levels_by}
use Rattle.lsys_forest.specs.Pairs.{AreMated, AreModules, AreModulesUnless}
use Rattle.lsys_forest.proofs.MatedLemmas.{same_mated}
use Rattle.lsys_forest.specs.Loosened.{AreLoose}
use Rattle.lsys_forest.proofs.forest.Forest.link.Goals as goal

pub link_levels-self-inside-requires-clause-sound : goal.link_levels-self-inside-requires-clause-sound
link_levels-self-inside-requires-clause-sound g c = sound_now c.self.invariant.grove

pub find_mates-self-inside-requires-clause-sound : goal.find_mates-self-inside-requires-clause-sound
find_mates-self-inside-requires-clause-sound g c =
    let i = c.self.inside in
    subst (λ (t : Stock g.row.A.Denot). IsRooted i.root (changes_of t) (nodes_of t)) (sym c.link_levels-self-inside.ensures.same) (sound_now c.self.invariant.grove)

pub find_mates-self-inside-requires-clause-mated : goal.find_mates-self-inside-requires-clause-mated
find_mates-self-inside-requires-clause-mated g c =
    let i = c.self.inside in
    let e = c.link_levels-self-inside.ensures in
    let footings = c.link_levels-self-inside.new.parts.footings in
    subst (λ (t : Stock g.row.A.Denot). AreMated (nodes_of t) i.root footings i.mated) (sym e.same) (same_mated (nodes_of i.parts) i.root i.parts.footings footings i.mated e.mates c.self.invariant.mated)

pub find_mates-self-inside-requires-clause-branches : goal.find_mates-self-inside-requires-clause-branches
find_mates-self-inside-requires-clause-branches g c = λ none.
    let i = c.self.inside in
    subst (λ (t : Stock g.row.A.Denot). AreModules (nodes_of t) i.root) (sym c.link_levels-self-inside.ensures.same) (c.self.invariant.branches none).0

pub invariant_of-self : goal.invariant_of-self
invariant_of-self g c =
    let i = c.self.inside in
    let e = c.find_mates-self-inside.ensures in
    let grove = c.self.invariant.grove in
    let now : IsGrove (record i.parts { footings = c.find_mates-self-inside.new.parts.footings }) i.root i.spare_nodes i.spare_notes = record { sound = grove.sound; nodes_left = grove.nodes_left; numbers = grove.numbers; fit = grove.fit; notes_left = grove.notes_left } in
    record {
      grove = subst (λ (t : Stock g.row.A.Denot). IsGrove t i.root i.spare_nodes i.spare_notes) (sym (c.find_mates-self-inside.ensures.same ∙ ap (λ (t : Stock g.row.A.Denot). record t { footings = c.find_mates-self-inside.new.parts.footings }) c.link_levels-self-inside.ensures.same)) now;
      ranked = e.ranked;
      linked = e.linked;
      mated = e.mated;
      branches = subst (λ (t : Stock g.row.A.Denot). AreModulesUnless i.branches t i.root) (sym (c.find_mates-self-inside.ensures.same ∙ ap (λ (t : Stock g.row.A.Denot). record t { footings = c.find_mates-self-inside.new.parts.footings }) c.link_levels-self-inside.ensures.same)) c.self.invariant.branches;
      loose = subst (λ (t : Stock g.row.A.Denot). AreLoose i.loose (nodes_of t) i.root) (sym (c.find_mates-self-inside.ensures.same ∙ ap (λ (t : Stock g.row.A.Denot). record t { footings = c.find_mates-self-inside.new.parts.footings }) c.link_levels-self-inside.ensures.same)) c.self.invariant.loose;
    }

pub returns-clause-now : goal.returns-clause-now
returns-clause-now g c = ap (λ (t : Stock g.row.A.Denot). nodes_of t) (c.find_mates-self-inside.ensures.same ∙ ap (λ (t : Stock g.row.A.Denot). record t { footings = c.find_mates-self-inside.new.parts.footings }) c.link_levels-self-inside.ensures.same) ∙ ap (λ (f : Grove g.row.A.Denot). now_of f) c.self.view_is

pub returns-clause-changes : goal.returns-clause-changes
returns-clause-changes g c = ap (λ (t : Stock g.row.A.Denot). changes_of t) (c.find_mates-self-inside.ensures.same ∙ ap (λ (t : Stock g.row.A.Denot). record t { footings = c.find_mates-self-inside.new.parts.footings }) c.link_levels-self-inside.ensures.same) ∙ ap (λ (f : Grove g.row.A.Denot). changes_in f) c.self.view_is

pub returns-clause-rest : goal.returns-clause-rest
returns-clause-rest g c = ap (λ (t : Stock g.row.A.Denot). undone (changes_of t) (nodes_of t)) (c.find_mates-self-inside.ensures.same ∙ ap (λ (t : Stock g.row.A.Denot). record t { footings = c.find_mates-self-inside.new.parts.footings }) c.link_levels-self-inside.ensures.same) ∙ ap (λ (f : Grove g.row.A.Denot). rest_of f) c.self.view_is

pub returns-clause-levels : goal.returns-clause-levels
returns-clause-levels g c =
    let i = c.self.inside in
    let new : Grove g.row.A.Denot = record { stock = c.find_mates-self-inside.new.parts; root = i.root; spare_nodes = i.spare_nodes; spare_notes = i.spare_notes } in
    subst (λ (f : Grove g.row.A.Denot). complete_levels new ≡ complete_levels f) c.self.view_is
    (levels_by (record { stock = i.parts; root = i.root; spare_nodes = i.spare_nodes; spare_notes = i.spare_notes }) new (ap (λ (t : Stock g.row.A.Denot). nodes_of t) (c.find_mates-self-inside.ensures.same ∙ ap (λ (t : Stock g.row.A.Denot). record t { footings = c.find_mates-self-inside.new.parts.footings }) c.link_levels-self-inside.ensures.same)) refl)

pub returns-clause-spends : goal.returns-clause-spends
returns-clause-spends g c =
    let i = c.self.inside in
    let new : Grove g.row.A.Denot = record { stock = c.find_mates-self-inside.new.parts; root = i.root; spare_nodes = i.spare_nodes; spare_notes = i.spare_notes } in
    let same = (c.find_mates-self-inside.ensures.same ∙ ap (λ (t : Stock g.row.A.Denot). record t { footings = c.find_mates-self-inside.new.parts.footings }) c.link_levels-self-inside.ensures.same) in
    let live = ap (λ (t : Stock g.row.A.Denot). live_slots t.slots) same in
    let room = ap (λ (t : Stock g.row.A.Denot). t.capacity) same in
    let params = ap (λ (t : Stock g.row.A.Denot). t.param_room) same in
    let kids = ap (λ (t : Stock g.row.A.Denot). t.kid_room) same in
    subst (λ (f : Grove g.row.A.Denot). Spends f new 0 0 0 0) c.self.view_is (record {
      live = omega (arith, live);
      numbers = omega (arith, room);
      nodes_left = omega arith;
      params_left = omega (arith, params);
      kids_left = omega (arith, kids);
      notes_left = omega arith;
    })

pub returns-clause-spares : goal.returns-clause-spares
returns-clause-spares g c =
    let i = c.self.inside in
    let new : Grove g.row.A.Denot = record { stock = c.find_mates-self-inside.new.parts; root = i.root; spare_nodes = i.spare_nodes; spare_notes = i.spare_notes } in
    let same = (c.find_mates-self-inside.ensures.same ∙ ap (λ (t : Stock g.row.A.Denot). record t { footings = c.find_mates-self-inside.new.parts.footings }) c.link_levels-self-inside.ensures.same) in
    let live = ap (λ (t : Stock g.row.A.Denot). live_slots t.slots) same in
    let room = ap (λ (t : Stock g.row.A.Denot). t.capacity) same in
    let params = ap (λ (t : Stock g.row.A.Denot). t.param_room) same in
    let kids = ap (λ (t : Stock g.row.A.Denot). t.kid_room) same in
    subst (λ (f : Grove g.row.A.Denot). KeepsSpares f new) c.self.view_is (record {
      live = live;
      numbers = omega (arith, room);
      nodes_left = omega arith;
      params_left = omega (arith, params);
      kids_left = omega (arith, kids);
      notes_left = omega arith;
    })
