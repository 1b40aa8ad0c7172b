-- What comes next on a level of nodes, and what comes first below it.
use Rattle.std.specs.Prelude.{◌≡◌, ◌-◌, ◌<◌, ℕ, true, List, [], ◌∷◌, ◌++◌, Option, Some, MatchOption, slice_get}
use Rattle.lsys_spec.specs.Rows.{first_in, last_in, flat}
use Rattle.lsys_spec.specs.Levels.{level_balanced}
use Rattle.lsys_level.specs.Spots.{level_by}
use Rattle.lsys_level.specs.ViewAnswers.{IsLeftOf, IsRightOf, HasBracket, IsMateOf}
use Rattle.lsys_forest.specs.declared.walk.Way.{Way}
use Rattle.lsys_forest.specs.Nodes.{Nodes}
use Rattle.lsys_forest.specs.Stocks.{Stock, nodes_of}
use Rattle.lsys_forest.specs.Groves.{Grove, now_of}
use Rattle.lsys_forest.specs.Rows.{index_in, oriented, kids_in, kids_that_way, kids_below, level_nodes, level_spots, complete_levels, level_of_node, place_of_node, level_with}

-- this comes next to a number in a row, if something does
abbrev pub IsNextIn : List ℕ → ℕ → Option ℕ → Type 0
IsNextIn row k next = (before after : List ℕ) → row ≡ before ++ k ∷ after → next ≡ first_in after

-- this comes next, that way, to the number at a place of a row, if something does
abbrev pub IsNextToPlace : Way → List ℕ → ℕ → Option ℕ → Type 0
IsNextToPlace way row place next =
    (k : ℕ) (before after : List ℕ) → slice_get row place ≡ Some k
    → oriented way row ≡ before ++ k ∷ after → next ≡ first_in after

-- the first number stands before the second in a row
abbrev pub ComesBefore : List ℕ → ℕ → ℕ → Type 0
ComesBefore row one two = index_in one row < index_in two row

module _ {A : Type 0} where
  -- the children that a node of a stock has
  abbrev pub kids_kept : Stock A → ℕ → List ℕ
  kids_kept t k = kids_in (nodes_of t k)

  -- the nodes of a stock that are so many steps below the root
  abbrev pub nodes_at_depth : Stock A → ℕ → ℕ → List ℕ
  nodes_at_depth t root depth = level_nodes (nodes_of t) root (depth - 1)

  -- the brackets of this level are balanced
  abbrev pub IsBalancedLevel : Nodes A → ℕ → ℕ → Type 0
  IsBalancedLevel m root t = level_balanced 0 (level_by (λ tag. []) (level_spots m root t)) ≡ true

  -- this is the first child, that way, of the nodes of a row from `start` on
  abbrev pub IsFirstKidFrom : Way → Stock A → List ℕ → Option ℕ → Option ℕ → Type 0
  IsFirstKidFrom way t row start kid =
      (before after : List ℕ) → oriented way row ≡ before ++ after → start ≡ first_in after
      → kid ≡ first_in (flat (kids_that_way way (nodes_of t)) after)

  -- this is the first child, that way, of the nodes of a level from one of them on
  abbrev pub IsChildFrom : Way → Grove A → ℕ → Option ℕ → Type 0
  IsChildFrom way f k kid =
      (before after : List ℕ) → oriented way (level_with f k) ≡ before ++ k ∷ after
      → kid ≡ first_in (flat (kids_that_way way (now_of f)) (k ∷ after))

  -- this is the left neighbour of a node of a complete level; none at the left end
  abbrev pub IsLeftNode : Grove A → ℕ → Option ℕ → Type 0
  IsLeftNode f k left = IsLeftOf (level_of_node f) (place_of_node f) k left

  -- this is its right neighbour; none at the right end
  abbrev pub IsRightNode : Grove A → ℕ → Option ℕ → Type 0
  IsRightNode f k right = IsRightOf (complete_levels f) (level_of_node f) (place_of_node f) k right

  -- this is its mate, where a bracket stands there; none where a module does
  abbrev pub IsMateNode : Grove A → ℕ → Option ℕ → Type 0
  IsMateNode f k mate =
      let levels = complete_levels f in let t = level_of_node f k in let p = place_of_node f k in
      MatchOption mate (HasBracket levels t p → ⊥)
      (λ m. HasBracket levels t p × (level_of_node f m ≡ t)
      × IsMateOf levels (level_of_node f) (place_of_node f) k m)

  -- this is the first child of the nodes of a level from one of them on
  abbrev pub IsFirstBelow : Grove A → ℕ → Option ℕ → Type 0
  IsFirstBelow f k kid =
      (before after : List ℕ) → level_with f k ≡ before ++ k ∷ after
      → kid ≡ first_in (kids_below (now_of f) (k ∷ after))

  -- this is the last child of the nodes of a level up to one of them
  abbrev pub IsLastBelow : Grove A → ℕ → Option ℕ → Type 0
  IsLastBelow f k kid =
      (before after : List ℕ) → level_with f k ≡ before ++ k ∷ after
      → kid ≡ last_in (kids_below (now_of f) (before ++ k ∷ []))
