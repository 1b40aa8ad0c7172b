use Rattle.lsys_children.proofs.Listed.{left_over}
use Rattle.lsys_pass.proofs.AskedLevels.{AreAskedTo}
use Rattle.lsys_pass.proofs.asked.asked_on.Given as goal

abbrev pub invariant-loop-at : goal.invariant-loop-at
invariant-loop-at g l = AreAskedTo l.forest l.system l.level l.at l.asked.items

abbrev pub decreases-loop-at : goal.decreases-loop-at
decreases-loop-at g l = left_over l.forest l.level l.at
