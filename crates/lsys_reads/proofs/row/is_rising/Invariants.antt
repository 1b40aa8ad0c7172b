use Rattle.std.proofs.Common.{◌<◌, ◌-◌, length, take}
use Rattle.lsys_reads.specs.Rows.{IsRising}
use Rattle.lsys_reads.proofs.row.is_rising.Given as goal

abbrev pub invariant-loop-at : goal.invariant-loop-at
invariant-loop-at l = (0 < l.at) × IsRising (take l.at l.tags)

abbrev pub decreases-loop-at : goal.decreases-loop-at
decreases-loop-at l = length l.tags - l.at
