-- Levels of nodes as levels by the definitions, and which of their nodes stand as before.
use Rattle.std.specs.Prelude.{◌≡◌, ℕ, List, Some, slice_get}
use Rattle.lsys_spec.specs.Rows.{In}
use Rattle.lsys_spec.specs.Systems.{System}
use Rattle.lsys_spec.specs.Levels.{LevelSymbol, IsLevel}
use Rattle.lsys_level.specs.Spots.{named}
use Rattle.lsys_laws.specs.Passes.{AreMeantTo}
use Rattle.lsys_laws.specs.Seats.{Seating}
use Rattle.lsys_forest.specs.Nodes.{Nodes}
use Rattle.lsys_forest.specs.Rows.{index_in, spot_in}
use Rattle.lsys_forest.specs.Mates.{seen_level}
use Rattle.lsys_forest.specs.Pairs.{seen_at}
use Rattle.lsys_reads.specs.declared.seat.Seat.{Seat}
use Rattle.lsys_reads.specs.Neighbours.{Neighbours, mate_on, neighbours_on}
use Rattle.lsys_reads.specs.Seats.{neighbours_at}

module _ {A : Type 0} where
  -- these nodes as a level, where a naming tells their lineages, with the mates of their symbols
  abbrev pub seating_of : (ℕ → List ℕ) → Nodes A → List ℕ → Seating
  seating_of naming m xs = record {
    nodes = xs;
    symbol = λ k. named naming (spot_in k (m k));
    mate = λ k. mate_on m xs (index_in k xs);
  }

  -- the seat of each node of the level tells its neighbours
  abbrev pub AreSeated : Nodes A → List ℕ → List Seat → Type 0
  AreSeated m xs seats =
      (p k : ℕ) → slice_get xs p ≡ Some k → neighbours_at seats k ≡ neighbours_on m xs p

  -- A node that had these neighbours and has those: its symbol and its neighbours are what they were, and so are the symbols
  -- of those beside it.
  pub record StandsAsBefore (old new : Nodes A) (before after : Neighbours) (k : ℕ) : Type 0 where
    pub symbol : seen_at new k ≡ seen_at old k
    pub neighbours : after ≡ before
    pub left : (j : ℕ) → before.left ≡ Some j → seen_at new j ≡ seen_at old j
    pub right : (j : ℕ) → before.right ≡ Some j → seen_at new j ≡ seen_at old j

  -- Level t of the old levels xs, and of the new ones ys up to t: these nodes, of lineages that a naming tells. Nodes of both
  -- that have one lineage are one node.
  pub record AreOldAndNew (old new : System) (xs ys : List (List LevelSymbol)) (t : ℕ)
      (naming : ℕ → List ℕ) (m n : Nodes A) (was are : List ℕ) : Type 0 where
    pub meant : AreMeantTo old new xs ys t
    pub old_level : slice_get xs t ≡ Some (seen_level naming m was)
    pub new_level : slice_get ys t ≡ Some (seen_level naming n are)
    pub old_is : IsLevel (seen_level naming m was)
    pub new_is : IsLevel (seen_level naming n are)
    pub apart : (i j : ℕ) → In i are → In j was → naming i ≡ naming j → i ≡ j
