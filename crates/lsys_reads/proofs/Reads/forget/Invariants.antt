use Rattle.std.proofs.Common.{◌≡◌, length}
use Rattle.lsys_reads.proofs.ReadsLemmas.{ForgetsDownTo}
use Rattle.lsys_reads.proofs.Reads.forget.Given as goal

abbrev pub invariant-loop-reader : goal.invariant-loop-reader
invariant-loop-reader l =
    ForgetsDownTo l.initial.self-inside.by_seen l.self-inside.by_seen l.initial.self-inside.by_reader l.self-inside.by_reader l.gone l.rest
    × (l.self-inside.pending.items ≡ l.initial.self-inside.pending.items)

abbrev pub decreases-loop-reader : goal.decreases-loop-reader
decreases-loop-reader l = length l.rest
