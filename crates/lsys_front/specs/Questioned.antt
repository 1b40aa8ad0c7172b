-- Which of the found nodes are asked, and in which order.
use Rattle.std.specs.Prelude.{◌≡◌, ◌<◌, ◌⊎◌, ◌↔◌, ℕ, List, [], ◌∷◌, ◌++◌}
use Rattle.lsys_spec.specs.Rows.{In, AreApart}
use Rattle.lsys_forest.specs.Groves.{Grove}
use Rattle.lsys_forest.specs.Rows.{level_of_node, place_of_node, IsAtSpot}

-- of these nodes those of this kind were added to a list
pub record AddsOf (kind : ℕ → Type 0) (nodes old new : List ℕ) : Type 0 where
  pub added : List ℕ
  pub is : new ≡ old ++ added
  pub are : (k : ℕ) → In k added ↔ (In k nodes × kind k)
  pub once : AreApart nodes → AreApart added

-- these nodes stand on one complete level
pub record AreOnOneLevel {A : Type 0} (f : Grove A) (nodes : List ℕ) : Type 0 where
  pub level : ℕ
  pub spots : (k : ℕ) → In k nodes → IsAtSpot f k
  pub levels : (k : ℕ) → In k nodes → level_of_node f k ≡ level

-- each is at a lower place than all later ones
abbrev pub ArePlaced : (ℕ → ℕ) → List ℕ → Type 0
ArePlaced place [] = Unit {0}
ArePlaced place (x ∷ xs) = ((k : ℕ) → In k xs → place x < place k) × ArePlaced place xs

-- the nodes as they come on their level, from the left
abbrev pub AreInOrder : {A : Type 0} → Grove A → List ℕ → Type 0
AreInOrder f nodes = ArePlaced (place_of_node f) nodes

-- these are some of those, in order
abbrev pub AreSome : List ℕ → List ℕ → Type 0
AreSome [] ks = Unit {0}
AreSome (j ∷ js) [] = ⊥
AreSome (j ∷ js) (k ∷ ks) = ((j ≡ k) × AreSome js ks) ⊎ AreSome (j ∷ js) ks
