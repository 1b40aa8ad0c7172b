-- Nodes that are found on a level, each once.
use Rattle.std.specs.Prelude.{◌≡◌, ◌⊎◌, ℕ, true, false, List, ◌++◌, Some}
use Rattle.lsys_spec.specs.Rows.{In, AreApart}
use Rattle.lsys_reads.specs.Relations.{Relations, is_settled}
use Rattle.lsys_forest.specs.Groves.{Grove}
use Rattle.lsys_reads.specs.declared.seat.Seat.{Seat}
use Rattle.lsys_reads.specs.Neighbours.{neighbours_in}
use Rattle.lsys_reads.specs.Seats.{neighbours_at, is_marked, SameSeats, KeepsSeats}

-- 1. each once

-- Nodes of this kind were added to a list, each once and none that was marked; and now they are marked too. The seats tell what they
-- told.
pub record Gathers (kind : ℕ → Type 0) (before after : List Seat) (old new : List ℕ) : Type 0 where
  pub added : List ℕ
  pub is : new ≡ old ++ added
  pub apart : AreApart added
  pub kinds : (k : ℕ) → In k added → kind k
  pub unmarked : (k : ℕ) → In k added → is_marked before k ≡ false
  pub marked : (k : ℕ) → In k added → is_marked after k ≡ true
  pub others : (k : ℕ) → (In k added → ⊥) → is_marked after k ≡ is_marked before k
  pub seats : SameSeats before after
  pub keeps : KeepsSeats before after

-- all of this kind are marked
abbrev pub AllMarked : (ℕ → Type 0) → List Seat → Type 0
AllMarked kind seats = (k : ℕ) → kind k → is_marked seats k ≡ true

-- 2. kinds

-- one that was looked at, and has other neighbours, or another mate, than its seat tells
pub record IsTurned {A : Type 0} (f : Grove A) (seats : List Seat) (looked : List ℕ) (k : ℕ) : Type 0 where
  pub looked_at : In k looked
  pub turned : neighbours_in f k ≡ neighbours_at seats k → ⊥

-- the node itself, or one beside it
abbrev pub IsAtOrBeside : {A : Type 0} → Grove A → ℕ → ℕ → Type 0
IsAtOrBeside f node k = (k ≡ node) ⊎ ((neighbours_in f node).left ≡ Some k) ⊎ ((neighbours_in f node).right ≡ Some k)

-- a changed one, or one beside it
pub record IsBeside {A : Type 0} (f : Grove A) (changed : List ℕ) (k : ℕ) : Type 0 where
  pub node : ℕ
  pub among : In node changed
  pub near : IsAtOrBeside f node k

-- one whose answer, as settled, read one of these
pub record IsReader (reads : Relations) (nodes : List ℕ) (k : ℕ) : Type 0 where
  pub node : ℕ
  pub among : In node nodes
  pub read : is_settled reads k node ≡ true
