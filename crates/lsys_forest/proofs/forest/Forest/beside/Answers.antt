use Rattle.std.proofs.Common.{inl, ◌≡◌, ◌++◌, ◌∷◌, ◌+◌, ◌-◌, ℕ, List, refl, sym, subst, arith}
use Rattle.lsys_spec.specs.Rows.{In, first_in}
use Rattle.lsys_level.specs.Spots.{IsSpot}
use Rattle.lsys_forest.specs.Stocks.{nodes_of, changes_of}
use Rattle.lsys_forest.specs.Groves.{Grove, now_of, changes_in, IsRooted}
use Rattle.lsys_forest.specs.Rows.{oriented, level_nodes, complete_levels, level_of_node, place_of_node}
use Rattle.lsys_forest.proofs.RowLemmas.{In_right}
use Rattle.lsys_forest.proofs.ViewLemmas.{node_at}
use Rattle.lsys_forest.proofs.GroveLemmas.{sound_now}
use Rattle.lsys_forest.proofs.forest.Forest.beside.Goals as goal

pub next_beside-requires-clause-sound : goal.next_beside-requires-clause-sound
next_beside-requires-clause-sound g c = sound_now c.self.invariant.grove

pub next_beside-requires-clause-among : goal.next_beside-requires-clause-among
next_beside-requires-clause-among g c =
    let i = c.self.inside in
    let F : Grove g.row.A.Denot = record { stock = i.parts; root = i.root; spare_nodes = i.spare_nodes; spare_notes = i.spare_notes } in
    let spot = subst (λ (f : Grove g.row.A.Denot). IsSpot (complete_levels f) (level_of_node f c.args.spot) (place_of_node f c.args.spot)) (sym c.self.view_is) c.requires in
    let at = node_at F (changes_of i.parts) c.args.spot (sound_now c.self.invariant.grove) spot in
    let depth : c.depth.result ≡ level_of_node F c.args.spot + 1 = subst (λ (f : Grove g.row.A.Denot). c.depth.result ≡ level_of_node f c.args.spot + 1) (sym c.self.view_is) c.depth.ensures in
    let t : level_of_node F c.args.spot ≡ c.depth.result - 1 = omega (arith, depth) in
    subst (λ d. In c.args.spot (level_nodes (nodes_of i.parts) i.root d)) t (subst (In c.args.spot) (sym at.level) (In_right c.args.spot at.before (c.args.spot ∷ at.after) (inl refl)))

pub returns-clause-beside : goal.returns-clause-beside
returns-clause-beside g c =
    let i = c.self.inside in
    let F : Grove g.row.A.Denot = record { stock = i.parts; root = i.root; spare_nodes = i.spare_nodes; spare_notes = i.spare_notes } in
    let depth : c.depth.result ≡ level_of_node F c.args.spot + 1 = subst (λ (f : Grove g.row.A.Denot). c.depth.result ≡ level_of_node f c.args.spot + 1) (sym c.self.view_is) c.depth.ensures in
    let t : c.depth.result - 1 ≡ level_of_node F c.args.spot = omega (arith, depth) in
    subst (λ (f : Grove g.row.A.Denot). (before after : List ℕ) → oriented c.args.way (level_nodes (now_of f) f.root (level_of_node f c.args.spot)) ≡ before ++ c.args.spot ∷ after → c.next_beside.result ≡ first_in after) c.self.view_is
    (subst (λ d. (before after : List ℕ) → oriented c.args.way (level_nodes (nodes_of i.parts) i.root d) ≡ before ++ c.args.spot ∷ after → c.next_beside.result ≡ first_in after) t c.next_beside.ensures)

pub returns-clause-sound : goal.returns-clause-sound
returns-clause-sound g c = subst (λ (f : Grove g.row.A.Denot). IsRooted f.root (changes_in f) (now_of f)) c.self.view_is (sound_now c.self.invariant.grove)
