use Rattle.std.proofs.Common.{◌-◌, length}
use Rattle.lsys_reads.proofs.RunLemmas.{PacksTo}
use Rattle.lsys_reads.proofs.runs.pack.Given as goal

abbrev pub invariant-loop-runs : goal.invariant-loop-runs
invariant-loop-runs l = PacksTo l.runs.items l.moved.items l.cells.items l.packed.items

abbrev pub decreases-loop-runs : goal.decreases-loop-runs
decreases-loop-runs l = length l.runs.items - length l.moved.items
