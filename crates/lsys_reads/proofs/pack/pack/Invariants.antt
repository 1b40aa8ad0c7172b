use Rattle.std.proofs.Common.{◌-◌, length}
use Rattle.lsys_reads.proofs.PackLemmas.{PacksTo}
use Rattle.lsys_reads.proofs.pack.pack.Given as goal

abbrev pub invariant-loop-heads : goal.invariant-loop-heads
invariant-loop-heads l = PacksTo l.heads.items l.moved.items l.cells.items l.packed.items

abbrev pub decreases-loop-heads : goal.decreases-loop-heads
decreases-loop-heads l = length l.heads.items - length l.moved.items
