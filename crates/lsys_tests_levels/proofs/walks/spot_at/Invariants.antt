use Rattle.lsys_level.specs.Spots.{IsSpot}
use Rattle.lsys_tests_levels.proofs.walks.spot_at.Given as goal

abbrev pub invariant-loop-step : goal.invariant-loop-step
invariant-loop-step g l = IsSpot (g.W.LevelView.levels l.view) (g.W.LevelView.level_of l.view l.at) (g.W.LevelView.place_of l.view l.at)
