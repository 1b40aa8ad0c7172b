-- Which levels of a forest are complete, and what is told of them.
use Rattle.std.specs.Prelude.{◌≡◌, ◌<◌, ◌^◌, ◌++◌, ◌∷◌, ℕ, List, length}
use Rattle.lsys_level.specs.Spots.{spots_at}
use Rattle.lsys_forest.specs.Groves.{Grove, now_of, changes_in, IsRooted}
use Rattle.lsys_forest.specs.Rows.{level_nodes, level_spots, complete_levels, AreBalancedTo, IsSpotAt}

-- a complete level is told as it is
abbrev pub TellsCompleteLevels : Type 0 → Type 0
TellsCompleteLevels A =
    (f : Grove A) (t : ℕ) → t < length (complete_levels f)
    → spots_at (complete_levels f) t ≡ level_spots (now_of f) f.root t

-- a level is complete if it and every level before it are balanced
abbrev pub BalancedLevelsAreComplete : Type 0 → Type 0
BalancedLevelsAreComplete A =
    (f : Grove A) (t : ℕ) → t < 2 ^ 32 → AreBalancedTo f t
    → t < length (complete_levels f)

-- each node of a complete level is a spot, at its place among them
abbrev pub NodesOfCompleteLevelsAreSpots : Type 0 → Type 0
NodesOfCompleteLevelsAreSpots A =
    (f : Grove A) (t k : ℕ) (before after : List ℕ)
    → IsRooted f.root (changes_in f) (now_of f) → t < length (complete_levels f)
    → level_nodes (now_of f) f.root t ≡ before ++ k ∷ after → IsSpotAt f t (length before) k
