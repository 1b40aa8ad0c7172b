use Rattle.std.proofs.Common.{◌≡◌, ◌<◌, ℕ, Some, slice_get}
use Rattle.lsys_spec.specs.Rows.{In}
use Rattle.lsys_reads.specs.Neighbours.{neighbours_in}
use Rattle.lsys_reads.specs.Seats.{neighbours_at, SameMarks, KeepsSeats}
use Rattle.lsys_pass.proofs.seating.seat_all.Given as goal

abbrev pub invariant-loop-node : goal.invariant-loop-node
invariant-loop-node g l = record {
  seated : (i k : ℕ) → i < l.node-index → slice_get l.nodes i ≡ Some k → neighbours_at l.seats k ≡ neighbours_in l.forest k;
  others : (k : ℕ) → (In k l.nodes → ⊥) → neighbours_at l.seats k ≡ neighbours_at l.fn.seats k;
  marks : SameMarks l.fn.seats l.seats;
  keeps : KeepsSeats l.fn.seats l.seats;
}
