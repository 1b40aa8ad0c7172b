-- Which nodes of a level stand as they stood.
use Rattle.std.specs.Prelude.{◌≡◌, ◌↔◌, ℕ, false, List, [], slice_get, Some, get_or}
use Rattle.lsys_spec.specs.Systems.{System}
use Rattle.lsys_spec.specs.Levels.{LevelSymbol}
use Rattle.lsys_spec.specs.Standings.{is_disturbed}
use Rattle.lsys_forest.specs.Nodes.{Nodes}
use Rattle.lsys_reads.specs.declared.seat.Seat.{Seat}
use Rattle.lsys_reads.specs.Neighbours.{neighbours_on}
use Rattle.lsys_reads.specs.Seats.{neighbours_at}
use Rattle.lsys_reads.specs.Standings.{AreOldAndNew, AreSeated, StandsAsBefore}

-- An old node is not disturbed exactly where its symbol, neighbours, mate and their symbols stay.
abbrev pub UndisturbedStandAsBefore : Type 0 → Type 0
UndisturbedStandAsBefore A =
    (old new : System) (xs ys : List (List LevelSymbol)) (t : ℕ)
    (naming : ℕ → List ℕ) (m n : Nodes A) (was are : List ℕ)
    → AreOldAndNew old new xs ys t naming m n was are
    → (p q k : ℕ) → slice_get was p ≡ Some k → slice_get are q ≡ Some k
    → (is_disturbed (get_or xs t []) (get_or ys t []) (naming k) ≡ false)
    ↔ StandsAsBefore m n (neighbours_on m was p) (neighbours_on n are q) k

-- Where the seats tell the neighbours of the old level, they tell which node is not disturbed.
abbrev pub UndisturbedStandAsSeated : Type 0 → Type 0
UndisturbedStandAsSeated A =
    (old new : System) (xs ys : List (List LevelSymbol)) (t : ℕ)
    (naming : ℕ → List ℕ) (m n : Nodes A) (was are : List ℕ) (seats : List Seat)
    → AreOldAndNew old new xs ys t naming m n was are → AreSeated m was seats
    → (p q k : ℕ) → slice_get was p ≡ Some k → slice_get are q ≡ Some k
    → (is_disturbed (get_or xs t []) (get_or ys t []) (naming k) ≡ false)
    ↔ StandsAsBefore m n (neighbours_at seats k) (neighbours_on n are q) k
