use Rattle.std.proofs.Common.{length}
use Rattle.lsys_pass.proofs.queue.+take_among.Given as goal

abbrev pub decreases-take_among : goal.decreases-take_among
decreases-take_among l = length l.part.now
