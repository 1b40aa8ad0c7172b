-- Where nodes stand among the children of their parents, and on their levels.
use Rattle.std.specs.Prelude.{◌≡◌, ◌≢◌, ◌⊎◌, ◌<◌, ℕ, List, ◌∷◌, ◌++◌, Option, Some, None, IsSome, slice_get}
use Rattle.lsys_spec.specs.Rows.{first_in, mirrored, In, AreApart}
use Rattle.lsys_forest.specs.declared.node.Footing.{Footing}
use Rattle.lsys_forest.specs.declared.walk.Way.{Way}
use Rattle.lsys_forest.specs.declared.walk.Way.TheVariants.{Left, Right}
use Rattle.lsys_forest.specs.Slots.{footing_at, rank_at, link_at, footing_mate}
use Rattle.lsys_forest.specs.Nodes.{Node, Nodes}
use Rattle.lsys_forest.specs.Rows.{oriented, level_nodes}
use Rattle.lsys_forest.specs.Stocks.{Stock, nodes_of}

-- each node of a row is linked to its neighbours there
abbrev pub AreChained : List ℕ → List Footing → Type 0
AreChained row footings =
    (k : ℕ) (way : Way) (before after : List ℕ) → oriented way row ≡ before ++ k ∷ after
    → link_at way footings k ≡ first_in after

-- a node was linked after the last one of a row, if there is one
pub record Joins (old new : List Footing) (last : Option ℕ) (kid : ℕ) : Type 0 where
  pub left : link_at Left new kid ≡ last
  pub right : link_at Right new kid ≡ None
  pub joined : (k : ℕ) → last ≡ Some k
      → (link_at Right new k ≡ Some kid) × (link_at Left new k ≡ link_at Left old k)
  pub others : (k : ℕ) → k ≢ kid → (last ≡ Some k → ⊥) → footing_at new k ≡ footing_at old k
  pub ranks : (k : ℕ) → rank_at new k ≡ rank_at old k
  pub mates : (k : ℕ) → footing_mate new k ≡ footing_mate old k

-- These nodes were linked as a row, the first of them after the last one before them, if there is one: so a row that ended there
-- goes on to the last of these.
pub record LinksRow (old new : List Footing) (before : Option ℕ) (kids : List ℕ)
    (last : Option ℕ) : Type 0 where
  pub chained : (row : List ℕ) → before ≡ first_in (mirrored row) → AreApart (row ++ kids)
      → AreChained row old → AreChained (row ++ kids) new
  pub last_is : (row : List ℕ) → before ≡ first_in (mirrored row)
      → last ≡ first_in (mirrored (row ++ kids))
  pub from : (k : ℕ) → last ≡ Some k → In k kids ⊎ (before ≡ Some k)
  pub others : (k : ℕ) → (In k kids → ⊥) → (before ≡ Some k → ⊥)
      → footing_at new k ≡ footing_at old k
  pub ranks : (k : ℕ) → rank_at new k ≡ rank_at old k
  pub mates : (k : ℕ) → footing_mate new k ≡ footing_mate old k

-- each rank stays that is not at one of these numbers
abbrev pub KeepsOtherRanks : List ℕ → List Footing → List Footing → Type 0
KeepsOtherRanks kids old new = (k : ℕ) → (In k kids → ⊥) → rank_at new k ≡ rank_at old k

-- each link stays
abbrev pub KeepsLinks : List Footing → List Footing → Type 0
KeepsLinks old new = (way : Way) (k : ℕ) → link_at way new k ≡ link_at way old k

-- each mate stays
abbrev pub KeepsMates : List Footing → List Footing → Type 0
KeepsMates old new = (k : ℕ) → footing_mate new k ≡ footing_mate old k

-- something is at this number, if it is one, and it is not among these
abbrev pub IsApartFrom : {X : Type 0} → (ℕ → Option X) → List ℕ → Option ℕ → Type 0
IsApartFrom at kids before = (k : ℕ) → before ≡ Some k → IsSome (at k) × (In k kids → ⊥)

module _ {A : Type 0} where
  abbrev pub parent_in : Option (Node A) → ℕ
  parent_in None = 0
  parent_in (Some n) = n.parent

  -- each child has its place among the children of its parent as its rank
  abbrev pub AreRanked : Nodes A → List Footing → Type 0
  AreRanked m footings = (p : ℕ) (n : Node A) (i k : ℕ) → m p ≡ Some n → slice_get n.kids i ≡ Some k → rank_at footings k ≡ i

  -- On each of so many levels, from the first one on, a node is linked to its neighbours.
  abbrev pub AreLinked : Nodes A → ℕ → List Footing → ℕ → Type 0
  AreLinked m root footings linked =
      (t k : ℕ) (way : Way) (before after : List ℕ) → t < linked
      → oriented way (level_nodes m root t) ≡ before ++ k ∷ after
      → link_at way footings k ≡ first_in after

  -- the children of a node came to have their ranks, where those of all others had them
  abbrev pub RanksKidsOf : ℕ → Stock A → Stock A → Type 0
  RanksKidsOf k old new =
      (before : Nodes A) → ((j : ℕ) → j ≢ k → nodes_of old j ≡ before j)
      → AreRanked before old.footings → AreRanked (nodes_of old) new.footings
