-- Two lists of nodes that are being merged.
use Rattle.std.specs.Prelude.{◌≡◌, ◌<◌, ◌≤◌, ◌⊎◌, ◌↔◌, ℕ, List, length, take, Some, slice_get}
use Rattle.lsys_spec.specs.Rows.{In}
use Rattle.lsys_forest.specs.Groves.{Grove}
use Rattle.lsys_forest.specs.Rows.{level_of_node, place_of_node, IsAtSpot}
use Rattle.lsys_front.specs.Questioned.{AreInOrder, ArePlaced}

-- two lists in order, of nodes of one level, none in both
pub record AreMergeable {A : Type 0} (f : Grove A) (left right : List ℕ) : Type 0 where
  pub level : ℕ
  pub left_level : (k : ℕ) → In k left → IsAtSpot f k × (level_of_node f k ≡ level)
  pub right_level : (k : ℕ) → In k right → IsAtSpot f k × (level_of_node f k ≡ level)
  pub left_order : AreInOrder f left
  pub right_order : AreInOrder f right
  pub apart : (k : ℕ) → In k left → In k right → ⊥

-- So many of the left ones and of the right ones are merged, in order, and each is below the next of the other list.
pub record AreMerged (place : ℕ → ℕ) (left right : List ℕ) (i j : ℕ) (merged : List ℕ) : Type 0 where
  pub within : j ≤ length right
  pub members : (k : ℕ) → In k merged ↔ (In k (take i left) ⊎ In k (take j right))
  pub order : ArePlaced place merged
  pub left_below : (k x : ℕ) → In k (take i left) → slice_get right j ≡ Some x → place k < place x
  pub right_below : (k x : ℕ) → In k (take j right) → slice_get left i ≡ Some x → place k < place x

-- by their places on the level
abbrev pub AreMergedIn : {A : Type 0} → Grove A → List ℕ → List ℕ → ℕ → ℕ → List ℕ → Type 0
AreMergedIn f left right i j merged = AreMerged (place_of_node f) left right i j merged

-- the left node at place i comes before the right one at place j
abbrev pub IsBeforeNext : {A : Type 0} → Grove A → List ℕ → List ℕ → ℕ → ℕ → Type 0
IsBeforeNext f left right i j =
    (k x : ℕ) → slice_get left i ≡ Some k → slice_get right j ≡ Some x
    → place_of_node f k < place_of_node f x
