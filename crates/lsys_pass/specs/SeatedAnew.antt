-- Seats that some nodes took anew.
use Rattle.std.specs.Prelude.{◌≡◌, ℕ, List}
use Rattle.lsys_spec.specs.Rows.{In}
use Rattle.lsys_reads.specs.declared.seat.Seat.{Seat}
use Rattle.lsys_reads.specs.Seats.{neighbours_at}

-- the seats of all other nodes tell what they told
abbrev pub KeepsOtherSeats : List Seat → List Seat → List ℕ → Type 0
KeepsOtherSeats old new nodes =
    (k : ℕ) → (In k nodes → ⊥) → neighbours_at new k ≡ neighbours_at old k
