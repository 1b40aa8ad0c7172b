use Rattle.std.proofs.Common.{length}
use Rattle.lsys_level.specs.Spots.{spots_at}
use Rattle.lsys_level.proofs.Walked.{IsAt, to_right, to_left}
use Rattle.lsys_tests_forests.proofs.forest_levels.walk.Given as goal

abbrev pub invariant-loop-at : goal.invariant-loop-at
invariant-loop-at g l =
    IsAt (g.W.LevelView.levels l.view) (g.W.LevelView.level_of l.view) (g.W.LevelView.place_of l.view) l.level l.at
    × IsAt (g.W.LevelView.levels l.view) (g.W.LevelView.level_of l.view) (g.W.LevelView.place_of l.view) l.level l.last

abbrev pub decreases-loop-at : goal.decreases-loop-at
decreases-loop-at g l = to_right (g.W.LevelView.place_of l.view) (length (spots_at (g.W.LevelView.levels l.view) l.level)) l.at

abbrev pub invariant-loop-last : goal.invariant-loop-last
invariant-loop-last g l = IsAt (g.W.LevelView.levels l.view) (g.W.LevelView.level_of l.view) (g.W.LevelView.place_of l.view) l.level l.last

abbrev pub decreases-loop-last : goal.decreases-loop-last
decreases-loop-last g l = to_left (g.W.LevelView.place_of l.view) l.last
