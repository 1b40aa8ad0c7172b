use Rattle.std.specs.Prelude.{[]}
use Rattle.lsys_level.specs.Spots.{spots_at}
use Rattle.lsys_pass.proofs.Numbering.{Counting, left_over}
use Rattle.lsys_pass.proofs.refusal.module_number.Given as goal

abbrev pub invariant-loop-at : goal.invariant-loop-at
invariant-loop-at g l =
    let t = g.W.LevelView.level_of l.view l.fn.spot in
    let p = g.W.LevelView.place_of l.view l.fn.spot in
    Counting (g.W.LevelView.level_of l.view) (g.W.LevelView.place_of l.view) (spots_at (g.W.LevelView.levels l.view) t) t p l.at l.number

abbrev pub decreases-loop-at : goal.decreases-loop-at
decreases-loop-at g l = left_over (g.W.LevelView.level_of l.view) (g.W.LevelView.place_of l.view) [] 0 0 l.at
