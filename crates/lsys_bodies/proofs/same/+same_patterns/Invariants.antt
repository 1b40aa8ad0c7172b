use Rattle.std.proofs.Common.{length}
use Rattle.lsys_bodies.proofs.same.+same_patterns.Given as goal

abbrev pub decreases-same_patterns : goal.decreases-same_patterns
decreases-same_patterns l = length l.one.now
