use Rattle.std.proofs.Common.{◌≡◌, Some, refl, sym, ap, ◌∙◌, subst}
use Rattle.std.specs.Prelude.{IsSome, option_map}
use Rattle.lsys_level.specs.Spots.{Spotted, IsSpot, spotted_at}
use Rattle.lsys_level.specs.Views.{seen_of}
use Rattle.lsys_forest.specs.Stocks.{changes_of}
use Rattle.lsys_forest.specs.Groves.{Grove, HasFew}
use Rattle.lsys_forest.specs.Rows.{complete_levels, level_of_node, place_of_node}
use Rattle.lsys_forest.proofs.ViewLemmas.{node_at, spotted_is}
use Rattle.lsys_forest.proofs.GroveLemmas.{sound_now}
use Rattle.lsys_forest.proofs.SeenLemmas.{few_seen}
use Rattle.lsys_forest.proofs.forest.ForestLevelView.sight.Goals as goal

pub symbol-requires : goal.symbol-requires
symbol-requires g c =
    let i = c.self.inside in
    let F : Grove g.row.A.Denot = record { stock = i.parts; root = i.root; spare_nodes = i.spare_nodes; spare_notes = i.spare_notes } in
    let spot = subst (λ (f : Grove g.row.A.Denot). IsSpot (complete_levels f) (level_of_node f c.args.spot) (place_of_node f c.args.spot)) (sym c.self.view_is) c.requires in
    let at = node_at F (changes_of i.parts) c.args.spot (sound_now c.self.invariant.grove) spot in
    subst IsSome (sym at.is) refl

pub returns-clause-seen : goal.returns-clause-seen
returns-clause-seen g c =
    let i = c.self.inside in
    let F : Grove g.row.A.Denot = record { stock = i.parts; root = i.root; spare_nodes = i.spare_nodes; spare_notes = i.spare_notes } in
    let spot = subst (λ (f : Grove g.row.A.Denot). IsSpot (complete_levels f) (level_of_node f c.args.spot) (place_of_node f c.args.spot)) (sym c.self.view_is) c.requires in
    let at = node_at F (changes_of i.parts) c.args.spot (sound_now c.self.invariant.grove) spot in
    subst (λ (f : Grove g.row.A.Denot). option_map (λ (x : Spotted). x.seen) (spotted_at (complete_levels f) (level_of_node f c.args.spot) (place_of_node f c.args.spot)) ≡ Some (seen_of c.symbol.result)) c.self.view_is
    (ap (option_map (λ (x : Spotted). x.seen)) (spotted_is F c.args.spot at) ∙ ap Some (sym (c.symbol.ensures at.node at.is)))

pub returns-clause-few : goal.returns-clause-few
returns-clause-few g c =
    let i = c.self.inside in
    let F : Grove g.row.A.Denot = record { stock = i.parts; root = i.root; spare_nodes = i.spare_nodes; spare_notes = i.spare_notes } in
    let spot = subst (λ (f : Grove g.row.A.Denot). IsSpot (complete_levels f) (level_of_node f c.args.spot) (place_of_node f c.args.spot)) (sym c.self.view_is) c.requires in
    let at = node_at F (changes_of i.parts) c.args.spot (sound_now c.self.invariant.grove) spot in
    few_seen c.symbol.result (subst HasFew (sym (c.symbol.ensures at.node at.is)) ((sound_now c.self.invariant.grove).few c.args.spot at.node at.is))
