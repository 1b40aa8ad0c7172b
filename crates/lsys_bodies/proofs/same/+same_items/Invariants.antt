use Rattle.std.proofs.Common.{length}
use Rattle.lsys_bodies.proofs.same.+same_items.Given as goal

abbrev pub decreases-same_items : goal.decreases-same_items
decreases-same_items l = length l.one.now
