use Rattle.std.proofs.Common.{◌≡◌, ◌<◌, ℕ, false, Some, slice_get}
use Rattle.lsys_spec.specs.Rows.{In}
use Rattle.lsys_reads.specs.Seats.{is_marked, SameSeats, KeepsSeats}
use Rattle.lsys_reads.proofs.seats.Seats.clear.Given as goal

abbrev pub invariant-loop-node : goal.invariant-loop-node
invariant-loop-node l = record {
  cleared : (i k : ℕ) → i < l.node-index → slice_get l.marked i ≡ Some k → is_marked l.self k ≡ false;
  others : (k : ℕ) → (In k l.marked → ⊥) → is_marked l.self k ≡ is_marked l.fn.self k;
  seats : SameSeats l.fn.self l.self;
  keeps : KeepsSeats l.fn.self l.self;
}
