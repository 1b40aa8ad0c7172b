use Rattle.std.proofs.Common.{◌≡◌, Some, refl, sym, ap, ◌∙◌, subst}
use Rattle.std.specs.Prelude.{IsSome, option_map}
use Rattle.lsys_level.specs.Spots.{Spotted, IsSpot, spotted_at}
use Rattle.lsys_forest.specs.Stocks.{changes_of}
use Rattle.lsys_forest.specs.Groves.{Grove}
use Rattle.lsys_forest.specs.Rows.{complete_levels, level_of_node, place_of_node}
use Rattle.lsys_forest.proofs.ViewLemmas.{node_at, spotted_is}
use Rattle.lsys_forest.proofs.GroveLemmas.{sound_now}
use Rattle.lsys_forest.proofs.forest.ForestLevelView.key.Goals as goal

pub key-requires : goal.key-requires
key-requires g c =
    let i = c.self.inside in
    let F : Grove g.row.A.Denot = record { stock = i.parts; root = i.root; spare_nodes = i.spare_nodes; spare_notes = i.spare_notes } in
    let spot = subst (λ (f : Grove g.row.A.Denot). IsSpot (complete_levels f) (level_of_node f c.args.spot) (place_of_node f c.args.spot)) (sym c.self.view_is) c.requires in
    let at = node_at F (changes_of i.parts) c.args.spot (sound_now c.self.invariant.grove) spot in
    subst IsSome (sym at.is) refl

pub returns : goal.returns
returns g c =
    let i = c.self.inside in
    let F : Grove g.row.A.Denot = record { stock = i.parts; root = i.root; spare_nodes = i.spare_nodes; spare_notes = i.spare_notes } in
    let spot = subst (λ (f : Grove g.row.A.Denot). IsSpot (complete_levels f) (level_of_node f c.args.spot) (place_of_node f c.args.spot)) (sym c.self.view_is) c.requires in
    let at = node_at F (changes_of i.parts) c.args.spot (sound_now c.self.invariant.grove) spot in
    subst (λ (f : Grove g.row.A.Denot). option_map (λ (x : Spotted). x.key) (spotted_at (complete_levels f) (level_of_node f c.args.spot) (place_of_node f c.args.spot)) ≡ Some c.key.result) c.self.view_is
    (ap (option_map (λ (x : Spotted). x.key)) (spotted_is F c.args.spot at) ∙ ap Some (sym (c.key.ensures at.node at.is)))
