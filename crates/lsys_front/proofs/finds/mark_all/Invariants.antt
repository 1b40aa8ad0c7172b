use Rattle.std.proofs.Common.{◌≡◌, ◌↔◌, ◌⊎◌, ℕ, true, take}
use Rattle.lsys_spec.specs.Rows.{In}
use Rattle.lsys_reads.specs.Seats.{is_marked, SameSeats, KeepsSeats}
use Rattle.lsys_front.proofs.finds.mark_all.Given as goal

abbrev pub invariant-loop-node : goal.invariant-loop-node
invariant-loop-node l = record {
  marks : (k : ℕ) → (is_marked l.seats k ≡ true) ↔ (In k (take l.node-index l.nodes) ⊎ (is_marked l.fn.seats k ≡ true));
  seats : SameSeats l.fn.seats l.seats;
  keeps : KeepsSeats l.fn.seats l.seats;
}
