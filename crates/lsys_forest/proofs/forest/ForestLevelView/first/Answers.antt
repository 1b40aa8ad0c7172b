use Rattle.std.proofs.Common.{◌≡◌, ◌<◌, length, sym, subst}
use Rattle.std.specs.Prelude.{MatchOption}
use Rattle.lsys_level.specs.Spots.{spots_at}
use Rattle.lsys_forest.specs.Stocks.{changes_of}
use Rattle.lsys_forest.specs.Groves.{Grove}
use Rattle.lsys_forest.specs.Rows.{complete_levels, level_of_node, place_of_node}
use Rattle.lsys_forest.proofs.ViewLemmas.{first_match}
use Rattle.lsys_forest.proofs.GroveLemmas.{sound_now}
use Rattle.lsys_forest.proofs.forest.ForestLevelView.first.Goals as goal

pub first_at-requires-clause-sound : goal.first_at-requires-clause-sound
first_at-requires-clause-sound g c = sound_now c.self.invariant.grove

pub returns : goal.returns
returns g c =
    let i = c.self.inside in
    let F : Grove g.row.A.Denot = record { stock = i.parts; root = i.root; spare_nodes = i.spare_nodes; spare_notes = i.spare_notes } in
    subst (λ (f : Grove g.row.A.Denot). MatchOption c.first_at.result (length (spots_at (complete_levels f) c.args.level) ≡ 0) (λ s. (level_of_node f s ≡ c.args.level) × (place_of_node f s ≡ 0) × (0 < length (spots_at (complete_levels f) c.args.level)))) c.self.view_is
    (first_match F (changes_of i.parts) c.args.level c.first_at.result (sound_now c.self.invariant.grove) (subst (λ (f : Grove g.row.A.Denot). c.args.level < length (complete_levels f)) (sym c.self.view_is) c.requires) c.first_at.ensures)
