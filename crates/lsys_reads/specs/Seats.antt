-- What a contract sees of the seats of nodes.
use Rattle.std.specs.Prelude.{◌≡◌, ◌≢◌, ◌<◌, ℕ, Bool, false, List, length, Option, Some, None, cond, nat_eq, slice_get}
use Rattle.lsys_reads.specs.declared.seat.Seat.{Seat}
use Rattle.lsys_reads.specs.Neighbours.{Neighbours}

-- who is told by a number at the seat of node k: nobody by its own
abbrev pub neighbour_told : ℕ → ℕ → Option ℕ
neighbour_told k x = cond (nat_eq x k) None (Some x)

abbrev pub seat_told : ℕ → Option Seat → Neighbours
seat_told k None = record { left = None; right = None; mate = None }
seat_told k (Some s) = record {
  left = neighbour_told k s.left;
  right = neighbour_told k s.right;
  mate = neighbour_told k s.mate;
}

-- two seats of one node tell the same
abbrev pub TellTheSame : Seat → Seat → Type 0
TellTheSame one two =
    (one.left ≡ two.left) × (one.right ≡ two.right) × (one.mate ≡ two.mate)

abbrev pub seat_marked : Option Seat → Bool
seat_marked None = false
seat_marked (Some s) = s.marked

-- the neighbours that the seat of a node tells; none where it has no seat
abbrev pub neighbours_at : List Seat → ℕ → Neighbours
neighbours_at seats k = seat_told k (slice_get seats k)

-- whether a node is marked
abbrev pub is_marked : List Seat → ℕ → Bool
is_marked seats k = seat_marked (slice_get seats k)

-- a node has a seat
abbrev pub HasSeat : List Seat → ℕ → Type 0
HasSeat seats k = k < length seats

-- all seats tell what they told
abbrev pub SameSeats : List Seat → List Seat → Type 0
SameSeats old new = (k : ℕ) → neighbours_at new k ≡ neighbours_at old k

-- the marks are the same
abbrev pub SameMarks : List Seat → List Seat → Type 0
SameMarks old new = (k : ℕ) → is_marked new k ≡ is_marked old k

-- those that had a seat have one
abbrev pub KeepsSeats : List Seat → List Seat → Type 0
KeepsSeats old new = (k : ℕ) → HasSeat old k → HasSeat new k

-- the seat of this node tells these neighbours, and the others what they told
pub record TellsAt (old new : List Seat) (node : ℕ) (told_now : Neighbours) : Type 0 where
  pub own : neighbours_at new node ≡ told_now
  pub others : (k : ℕ) → k ≢ node → neighbours_at new k ≡ neighbours_at old k
