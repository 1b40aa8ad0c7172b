use Rattle.std.specs.Prelude.{◌↔◌, IsTrue}
use Rattle.std.proofs.Common.{inl, refl, ◌≡◌, ◌∷◌, ◌+◌, ◌-◌, ◌<◌, sym, ◌∙◌, subst, arith}
use Rattle.lsys_spec.specs.Rows.{In}
use Rattle.lsys_level.specs.Spots.{IsSpot}
use Rattle.lsys_forest.specs.Stocks.{nodes_of, changes_of}
use Rattle.lsys_forest.specs.Groves.{Grove}
use Rattle.lsys_forest.specs.Rows.{index_in, level_nodes, complete_levels, level_of_node, place_of_node}
use Rattle.lsys_forest.proofs.RowLemmas.{In_right}
use Rattle.lsys_forest.proofs.ViewLemmas.{node_at}
use Rattle.lsys_forest.proofs.GroveLemmas.{sound_now}
use Rattle.lsys_forest.proofs.forest.Forest.is_before.Goals as goal

pub comes_before-requires-clause-sound : goal.comes_before-requires-clause-sound
comes_before-requires-clause-sound g c = sound_now c.self.invariant.grove

pub comes_before-requires-clause-one : goal.comes_before-requires-clause-one
comes_before-requires-clause-one g c =
    let i = c.self.inside in
    let F : Grove g.row.A.Denot = record { stock = i.parts; root = i.root; spare_nodes = i.spare_nodes; spare_notes = i.spare_notes } in
    let spot = subst (λ (f : Grove g.row.A.Denot). IsSpot (complete_levels f) (level_of_node f c.args.one) (place_of_node f c.args.one)) (sym c.self.view_is) c.requires.one in
    let at = node_at F (changes_of i.parts) c.args.one (sound_now c.self.invariant.grove) spot in
    let depth : c.depth-depth.result ≡ level_of_node F c.args.one + 1 = subst (λ (f : Grove g.row.A.Denot). c.depth-depth.result ≡ level_of_node f c.args.one + 1) (sym c.self.view_is) c.depth-depth.ensures in
    let t : level_of_node F c.args.one ≡ c.depth-depth.result - 1 = omega (arith, depth) in
    subst (λ d. In c.args.one (level_nodes (nodes_of i.parts) i.root d)) t (subst (In c.args.one) (sym at.level) (In_right c.args.one at.before (c.args.one ∷ at.after) (inl refl)))

pub comes_before-requires-clause-two : goal.comes_before-requires-clause-two
comes_before-requires-clause-two g c =
    let i = c.self.inside in
    let F : Grove g.row.A.Denot = record { stock = i.parts; root = i.root; spare_nodes = i.spare_nodes; spare_notes = i.spare_notes } in
    let spot = subst (λ (f : Grove g.row.A.Denot). IsSpot (complete_levels f) (level_of_node f c.args.two) (place_of_node f c.args.two)) (sym c.self.view_is) c.requires.two in
    let at = node_at F (changes_of i.parts) c.args.two (sound_now c.self.invariant.grove) spot in
    let level = subst (λ (f : Grove g.row.A.Denot). level_of_node f c.args.two ≡ level_of_node f c.args.one) (sym c.self.view_is) c.requires.level in
    let depth : c.depth-depth.result ≡ level_of_node F c.args.one + 1 = subst (λ (f : Grove g.row.A.Denot). c.depth-depth.result ≡ level_of_node f c.args.one + 1) (sym c.self.view_is) c.depth-depth.ensures in
    let t : level_of_node F c.args.two ≡ c.depth-depth.result - 1 = omega (arith, depth, level) in
    subst (λ d. In c.args.two (level_nodes (nodes_of i.parts) i.root d)) t (subst (In c.args.two) (sym at.level) (In_right c.args.two at.before (c.args.two ∷ at.after) (inl refl)))

pub returns : goal.returns
returns g c =
    let i = c.self.inside in
    let F : Grove g.row.A.Denot = record { stock = i.parts; root = i.root; spare_nodes = i.spare_nodes; spare_notes = i.spare_notes } in
    let level = subst (λ (f : Grove g.row.A.Denot). level_of_node f c.args.two ≡ level_of_node f c.args.one) (sym c.self.view_is) c.requires.level in
    let depth : c.depth-depth.result ≡ level_of_node F c.args.one + 1 = subst (λ (f : Grove g.row.A.Denot). c.depth-depth.result ≡ level_of_node f c.args.one + 1) (sym c.self.view_is) c.depth-depth.ensures in
    let t : c.depth-depth.result - 1 ≡ level_of_node F c.args.one = omega (arith, depth) in
    let u : c.depth-depth.result - 1 ≡ level_of_node F c.args.two = t ∙ sym level in
    subst (λ (f : Grove g.row.A.Denot). IsTrue c.comes_before.result ↔ (place_of_node f c.args.one < place_of_node f c.args.two)) c.self.view_is
    (subst (λ d. IsTrue c.comes_before.result ↔ (place_of_node F c.args.one < index_in c.args.two (level_nodes (nodes_of i.parts) i.root d))) u
    (subst (λ d. IsTrue c.comes_before.result ↔ (index_in c.args.one (level_nodes (nodes_of i.parts) i.root d) < index_in c.args.two (level_nodes (nodes_of i.parts) i.root (c.depth-depth.result - 1)))) t c.comes_before.ensures))
