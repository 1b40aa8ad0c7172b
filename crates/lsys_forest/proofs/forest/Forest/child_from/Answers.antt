use Rattle.std.proofs.Common.{inl, ◌≡◌, ◌++◌, ◌∷◌, ◌+◌, ◌-◌, ℕ, List, refl, sym, subst, arith}
use Rattle.lsys_spec.specs.Rows.{In, first_in, flat}
use Rattle.lsys_level.specs.Spots.{IsSpot}
use Rattle.lsys_forest.specs.Stocks.{nodes_of, changes_of}
use Rattle.lsys_forest.specs.Groves.{Grove, now_of}
use Rattle.lsys_forest.specs.Rows.{oriented, kids_that_way, level_nodes, complete_levels, level_of_node, place_of_node}
use Rattle.lsys_forest.proofs.RowLemmas.{In_right}
use Rattle.lsys_forest.proofs.ViewLemmas.{node_at}
use Rattle.lsys_forest.proofs.GroveLemmas.{sound_now}
use Rattle.lsys_forest.proofs.forest.Forest.child_from.Goals as goal

pub first_child-requires-clause-sound : goal.first_child-requires-clause-sound
first_child-requires-clause-sound g c = sound_now c.self.invariant.grove

pub first_child-requires-clause-among : goal.first_child-requires-clause-among
first_child-requires-clause-among g c =
    let i = c.self.inside in
    let F : Grove g.row.A.Denot = record { stock = i.parts; root = i.root; spare_nodes = i.spare_nodes; spare_notes = i.spare_notes } in
    let spot = subst (λ (f : Grove g.row.A.Denot). IsSpot (complete_levels f) (level_of_node f c.args.spot) (place_of_node f c.args.spot)) (sym c.self.view_is) c.requires in
    let at = node_at F (changes_of i.parts) c.args.spot (sound_now c.self.invariant.grove) spot in
    let depth : c.depth.result ≡ level_of_node F c.args.spot + 1 = subst (λ (f : Grove g.row.A.Denot). c.depth.result ≡ level_of_node f c.args.spot + 1) (sym c.self.view_is) c.depth.ensures in
    let t : level_of_node F c.args.spot ≡ c.depth.result - 1 = omega (arith, depth) in
    subst (λ d. In c.args.spot (level_nodes (nodes_of i.parts) i.root d)) t (subst (In c.args.spot) (sym at.level) (In_right c.args.spot at.before (c.args.spot ∷ at.after) (inl refl)))

pub returns : goal.returns
returns g c =
    let i = c.self.inside in
    let F : Grove g.row.A.Denot = record { stock = i.parts; root = i.root; spare_nodes = i.spare_nodes; spare_notes = i.spare_notes } in
    let depth : c.depth.result ≡ level_of_node F c.args.spot + 1 = subst (λ (f : Grove g.row.A.Denot). c.depth.result ≡ level_of_node f c.args.spot + 1) (sym c.self.view_is) c.depth.ensures in
    let t : c.depth.result - 1 ≡ level_of_node F c.args.spot = omega (arith, depth) in
    subst (λ (f : Grove g.row.A.Denot). (before after : List ℕ) → oriented c.args.way (level_nodes (now_of f) f.root (level_of_node f c.args.spot)) ≡ before ++ c.args.spot ∷ after → c.first_child.result ≡ first_in (flat (kids_that_way c.args.way (now_of f)) (c.args.spot ∷ after))) c.self.view_is
    (subst (λ d. (before after : List ℕ) → oriented c.args.way (level_nodes (nodes_of i.parts) i.root d) ≡ before ++ c.args.spot ∷ after → c.first_child.result ≡ first_in (flat (kids_that_way c.args.way (nodes_of i.parts)) (c.args.spot ∷ after))) t (λ before after whole. c.first_child.ensures before (c.args.spot ∷ after) whole refl))
