use Rattle.std.proofs.Common.{length}
use Rattle.lsys_level.specs.Spots.{spots_at}
use Rattle.lsys_level.proofs.Walked.{IsAt, to_right}
use Rattle.lsys_tests_levels.proofs.levels.parameters.Given as goal

abbrev pub invariant-loop-at : goal.invariant-loop-at
invariant-loop-at g l = IsAt (g.W.LevelView.levels l.view) (g.W.LevelView.level_of l.view) (g.W.LevelView.place_of l.view) l.level l.at

abbrev pub decreases-loop-at : goal.decreases-loop-at
decreases-loop-at g l = to_right (g.W.LevelView.place_of l.view) (length (spots_at (g.W.LevelView.levels l.view) l.level)) l.at
