use Rattle.lsys_level.specs.Spots.{spots_at}
use Rattle.lsys_level.proofs.Copies.{left_over}
use Rattle.lsys_session.proofs.PutLevels.{Putting}
use Rattle.lsys_session.proofs.strings.put_level.Given as goal

abbrev pub invariant-loop-at : goal.invariant-loop-at
invariant-loop-at g l = Putting g.K.Sink.written g.K.Sink.faults l.initial.sink l.sink l.initial.out l.out (g.W.LevelView.level_of l.view) (g.W.LevelView.place_of l.view) (spots_at (g.W.LevelView.levels l.view) l.level) l.level l.at l.runs_on

abbrev pub decreases-loop-at : goal.decreases-loop-at
decreases-loop-at g l = left_over (g.W.LevelView.place_of l.view) (spots_at (g.W.LevelView.levels l.view) l.level) l.at
