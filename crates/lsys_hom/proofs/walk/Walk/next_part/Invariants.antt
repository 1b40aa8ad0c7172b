use Rattle.std.proofs.Common.{◌≡◌}
use Rattle.lsys_hom.proofs.walk.Walk.next_part.Given as goal

-- what was passed by now has no image
abbrev pub invariant-loop-passed : goal.invariant-loop-passed
invariant-loop-passed g l = l.self.coming ≡ l.initial.self.coming

abbrev pub decreases-loop-passed : goal.decreases-loop-passed
decreases-loop-passed g l = l.self.left
