use Rattle.std.proofs.Common.{length}
use Rattle.lsys_pass.proofs.queue.+nth_among.Given as goal

abbrev pub decreases-nth_among : goal.decreases-nth_among
decreases-nth_among l = length l.part.now
