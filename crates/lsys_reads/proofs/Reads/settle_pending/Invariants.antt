use Rattle.std.proofs.Common.{length}
use Rattle.lsys_reads.proofs.ReadsLemmas.{Settles}
use Rattle.lsys_reads.proofs.Reads.settle_pending.Given as goal

abbrev pub invariant-loop-pair : goal.invariant-loop-pair
invariant-loop-pair l = Settles l.initial.self-inside.by_seen l.self-inside.by_seen l.self-inside.by_reader l.initial.self-inside.pending.items l.self-inside.pending.items

abbrev pub decreases-loop-pair : goal.decreases-loop-pair
decreases-loop-pair l = length l.self-inside.pending.items
