-- By some nodes of a level it was looked at nodes of the next one, and at no others.
use Rattle.std.specs.Prelude.{◌≡◌, ◌⊎◌, ℕ, List, ◌∷◌, ◌++◌, Option, Some}
use Rattle.lsys_spec.specs.Rows.{In, AreApart, first_in, last_in}
use Rattle.lsys_forest.specs.Groves.{Grove, now_of}
use Rattle.lsys_forest.specs.Rows.{kids_below, level_with}
use Rattle.lsys_reads.specs.Looks.{LooksAround, LooksBeyond, LooksAtMate, LooksInto, IsOnLevelOf, AddsBelow}

module _ {A : Type 0} where
  -- it was looked at the children of each of these nodes, and at the next ones before it and after it
  abbrev pub LooksAroundAll : Grove A → List ℕ → List ℕ → Type 0
  LooksAroundAll f nodes looked = (q : ℕ) → In q nodes → LooksAround f q looked

  -- at the last child up to each of these, and at the first one from it on
  abbrev pub LooksBeyondAll : Grove A → List ℕ → List ℕ → Type 0
  LooksBeyondAll f nodes looked = (q : ℕ) → In q nodes → LooksBeyond f q looked

  -- at the children of the mate of each of these
  abbrev pub LooksAtMates : Grove A → List ℕ → List ℕ → Type 0
  LooksAtMates f nodes looked = (q : ℕ) → In q nodes → LooksAtMate f q looked

  -- at the children of each bracket among these
  abbrev pub LooksIntoBranches : Grove A → List ℕ → List ℕ → Type 0
  LooksIntoBranches f nodes looked = (q : ℕ) → In q nodes → LooksInto f q looked

  -- only nodes of the next level were added, by a node
  abbrev pub AddsUnderNode : Grove A → ℕ → List ℕ → List ℕ → Type 0
  AddsUnderNode f q old new = (t : ℕ) → IsOnLevelOf f t q → AddsBelow f t old new

  -- and by nodes of one level
  abbrev pub AddsUnder : Grove A → List ℕ → List ℕ → List ℕ → Type 0
  AddsUnder f nodes old new =
      (t : ℕ) → ((q : ℕ) → In q nodes → IsOnLevelOf f t q) → AddsBelow f t old new

  -- this is the last child of the nodes before that one on its level, in which none stands twice
  abbrev pub IsLastBefore : Grove A → ℕ → Option ℕ → Type 0
  IsLastBefore f q found =
      (before after : List ℕ) → AreApart (level_with f q)
      → level_with f q ≡ before ++ q ∷ after
      → found ≡ last_in (kids_below (now_of f) before)

  -- and this is the first child of those after it
  abbrev pub IsFirstAfter : Grove A → ℕ → Option ℕ → Type 0
  IsFirstAfter f q found =
      (before after : List ℕ) → AreApart (level_with f q)
      → level_with f q ≡ before ++ q ∷ after
      → found ≡ first_in (kids_below (now_of f) after)

-- nothing else was added than this node, if there is one
abbrev pub AddsAtMost : Option ℕ → List ℕ → List ℕ → Type 0
AddsAtMost node old new = (k : ℕ) → In k new → In k old ⊎ (node ≡ Some k)
