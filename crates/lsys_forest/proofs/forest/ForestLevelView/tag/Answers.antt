use Rattle.std.proofs.Common.{◌≡◌, Some, sym, ap, ◌∙◌, subst, arith}
use Rattle.std.proofs.lemmas.Grind.{common_steps}
use Rattle.std.proofs.lemmas.Option.{same_Some}
use Rattle.std.specs.Prelude.{option_map}
use Rattle.lsys_level.specs.Spots.{Spotted, IsSpot, spotted_at}
use Rattle.lsys_level.specs.Tags.{HasOwnTags}
use Rattle.lsys_forest.specs.Nodes.{Node}
use Rattle.lsys_forest.specs.Stocks.{nodes_of, changes_of}
use Rattle.lsys_forest.specs.Groves.{Grove}
use Rattle.lsys_forest.specs.Rows.{complete_levels, level_of_node, place_of_node}
use Rattle.lsys_forest.proofs.ViewLemmas.{node_at, spotted_is, own_tags}
use Rattle.lsys_forest.proofs.GroveLemmas.{sound_now}
use Rattle.lsys_forest.proofs.forest.ForestLevelView.tag.Goals as goal

pub prove-unreachable-requires : goal.prove-unreachable-requires
prove-unreachable-requires g c =
    let i = c.self.inside in
    let F : Grove g.row.A.Denot = record { stock = i.parts; root = i.root; spare_nodes = i.spare_nodes; spare_notes = i.spare_notes } in
    let spot = subst (λ (f : Grove g.row.A.Denot). IsSpot (complete_levels f) (level_of_node f c.args.spot) (place_of_node f c.args.spot)) (sym c.self.view_is) c.requires in
    let sound = sound_now c.self.invariant.grove in
    let at = node_at F (changes_of i.parts) c.args.spot sound spot in
    let root : c.args.spot ≡ i.root = grind (arith, common_steps, c.if-prove.ensures) in
    let same = same_Some at.node sound.root_lives.0 (sym at.is ∙ ap (nodes_of i.parts) root ∙ sound.root_lives.1) in
    let depth = ap (λ (n : Node g.row.A.Denot). n.depth) same in
    omega (arith, depth, at.depth, sound.root_lives.2)

pub returns-clause-tag : goal.returns-clause-tag
returns-clause-tag g c =
    let i = c.self.inside in
    let F : Grove g.row.A.Denot = record { stock = i.parts; root = i.root; spare_nodes = i.spare_nodes; spare_notes = i.spare_notes } in
    let spot = subst (λ (f : Grove g.row.A.Denot). IsSpot (complete_levels f) (level_of_node f c.args.spot) (place_of_node f c.args.spot)) (sym c.self.view_is) c.requires in
    let at = node_at F (changes_of i.parts) c.args.spot (sound_now c.self.invariant.grove) spot in
    subst (λ (f : Grove g.row.A.Denot). option_map (λ (x : Spotted). x.tag) (spotted_at (complete_levels f) (level_of_node f c.args.spot) (place_of_node f c.args.spot)) ≡ Some c.spot.inside.0) c.self.view_is
    (ap (option_map (λ (x : Spotted). x.tag)) (spotted_is F c.args.spot at) ∙ ap Some (sym c.spot.view_is))

pub returns-clause-own : goal.returns-clause-own
returns-clause-own g c =
    let i = c.self.inside in
    let F : Grove g.row.A.Denot = record { stock = i.parts; root = i.root; spare_nodes = i.spare_nodes; spare_notes = i.spare_notes } in
    subst (λ (f : Grove g.row.A.Denot). HasOwnTags (complete_levels f)) c.self.view_is (own_tags F (changes_of i.parts) (sound_now c.self.invariant.grove))
