use Rattle.std.proofs.Common.{◌-◌}
use Rattle.lsys_reads.proofs.PassLemmas.{DedupsTo}
use Rattle.lsys_reads.proofs.row.dedup.Given as goal

abbrev pub invariant-loop-at : goal.invariant-loop-at
invariant-loop-at l = DedupsTo l.initial.cells l.cells l.len l.at l.kept

abbrev pub decreases-loop-at : goal.decreases-loop-at
decreases-loop-at l = l.len - l.at
