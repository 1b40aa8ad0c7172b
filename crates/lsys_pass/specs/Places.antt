-- Nodes of one level, in order.
use Rattle.std.specs.Prelude.{◌≡◌, ◌<◌, ℕ, List, Some, slice_get}
use Rattle.lsys_spec.specs.Rows.{In}
use Rattle.lsys_forest.specs.Groves.{Grove}
use Rattle.lsys_forest.specs.Rows.{level_of_node, place_of_node, IsAtSpot}

module _ {A : Type 0} where
  -- each stands on a complete level, all on one, and each before those that come later
  pub record AreInOrderOnLevel (f : Grove A) (nodes : List ℕ) : Type 0 where
    pub spots : (k : ℕ) → In k nodes → IsAtSpot f k
    pub level : (j k : ℕ) → In j nodes → In k nodes → level_of_node f j ≡ level_of_node f k
    pub rise : (p q j k : ℕ) → p < q → slice_get nodes p ≡ Some j → slice_get nodes q ≡ Some k
        → place_of_node f j < place_of_node f k
