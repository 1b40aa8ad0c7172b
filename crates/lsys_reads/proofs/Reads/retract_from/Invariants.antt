use Rattle.std.proofs.Common.{◌≡◌, length}
use Rattle.std.specs.Prelude.{take}
use Rattle.lsys_reads.specs.Relations.{SettledStay}
use Rattle.lsys_reads.proofs.Reads.retract_from.Given as goal

abbrev pub invariant-loop-self : goal.invariant-loop-self
invariant-loop-self l = record {
  settled : SettledStay l.initial.self l.self;
  stay : take l.pairs l.self.pending ≡ take l.pairs l.initial.self.pending;
}

abbrev pub decreases-loop-self : goal.decreases-loop-self
decreases-loop-self l = length l.self.pending
