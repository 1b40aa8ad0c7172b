-- Nodes of one kind, found among others: each was marked, and added to a list.
use Rattle.std.specs.Prelude.{◌≡◌, ◌⊎◌, ◌↔◌, ℕ, true, List, Vec}
use Rattle.std.specs.declared.alloc.Global.{Global}
use Rattle.lsys_spec.specs.Rows.{In}
use Rattle.lsys_reads.specs.Relations.{Relations}
use Rattle.lsys_forest.specs.Groves.{Grove}
use Rattle.lsys_reads.specs.declared.seat.Seat.{Seat}
use Rattle.lsys_reads.specs.Seats.{is_marked}
use Rattle.lsys_front.specs.Finds.{Gathers, IsTurned, IsAtOrBeside, IsBeside, IsReader}
use Rattle.lsys_front.specs.Found.{LevelChanges, IsOther}

-- nodes of this kind were marked and added
abbrev pub GathersInto : (ℕ → Type 0) → List Seat → List Seat → Vec ℕ Global → Vec ℕ Global → Type 0
GathersInto kind before after old new = Gathers kind before after old.items new.items

-- all these are marked now too
abbrev pub MarksThese : List ℕ → List Seat → List Seat → Type 0
MarksThese nodes before after =
    (k : ℕ) → (is_marked after k ≡ true) ↔ (In k nodes ⊎ (is_marked before k ≡ true))

-- marked are none but those that came or are gone, and those that were found
abbrev pub MarksOnlyFound : LevelChanges → List Seat → Vec ℕ Global → Vec ℕ Global
    → Vec ℕ Global → Type 0
MarksOnlyFound c seats turned beside readers =
    (k : ℕ) → is_marked seats k ≡ true
    → IsOther c k ⊎ In k turned.items ⊎ In k beside.items ⊎ In k readers.items

module _ {A : Type 0} where
  -- of those that were looked at, those that turned
  abbrev pub GathersTurned : Grove A → List ℕ → List Seat → List Seat
      → Vec ℕ Global → Vec ℕ Global → Type 0
  GathersTurned f looked before after old new =
      Gathers (IsTurned f before looked) before after old.items new.items

  -- a node, and those beside it
  abbrev pub GathersNear : Grove A → ℕ → List Seat → List Seat
      → Vec ℕ Global → Vec ℕ Global → Type 0
  GathersNear f node before after old new =
      Gathers (IsAtOrBeside f node) before after old.items new.items

  -- those that changed, and those beside them
  abbrev pub GathersBeside : Grove A → List ℕ → List Seat → List Seat
      → Vec ℕ Global → Vec ℕ Global → Type 0
  GathersBeside f changed before after old new =
      Gathers (IsBeside f changed) before after old.items new.items

-- those whose answers, as settled, read one of these
abbrev pub GathersReaders : Relations → List ℕ → List Seat → List Seat
    → Vec ℕ Global → Vec ℕ Global → Type 0
GathersReaders reads seen before after old new =
    Gathers (IsReader reads seen) before after old.items new.items
