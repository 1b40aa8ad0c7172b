use Rattle.std.proofs.Common.{◌≡◌, ℕ, true, take}
use Rattle.lsys_spec.specs.Rows.{In}
use Rattle.lsys_reads.specs.Neighbours.{neighbours_in}
use Rattle.lsys_reads.specs.Seats.{neighbours_at, is_marked}
use Rattle.lsys_front.specs.Finds.{Gathers, IsTurned}
use Rattle.lsys_front.proofs.finds.find_turned.Given as goal

abbrev pub invariant-loop-node : goal.invariant-loop-node
invariant-loop-node g l = record {
  gathers : Gathers (IsTurned l.forest l.fn.seats l.looked) l.fn.seats l.seats l.fn.turned.items l.turned.items;
  all : (k : ℕ) → In k (take l.node-index l.looked) → (neighbours_in l.forest k ≡ neighbours_at l.fn.seats k → ⊥) → is_marked l.seats k ≡ true;
}
