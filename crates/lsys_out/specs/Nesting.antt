-- How deep branches are nested, and what a turtle needs to go over them.
use Rattle.std.specs.Prelude.{◌≡◌, ℕ, ℤ, ◌<◌, ◌≤◌, ◌^◌, true, Some, None, Result, Ok, Err, List, [], ◌∷◌, length, max}
use Rattle.lsys_syntax.specs.Strings as S
use Rattle.lsys_spec.specs.Systems.{System, WellSpelled}
use Rattle.lsys_spec.specs.Levels.{level_balanced}
use Rattle.lsys_level.specs.Spots.{Spotted, spots_at}
use Rattle.lsys_hom.specs.Refusals.{refusal_of}
use Rattle.lsys_hom.specs.declared.refusal.ImageRefusal.{ImageRefusal}
use Rattle.lsys_turtle.specs.Ways.{RoomyTurtle, saved_after}
use Rattle.lsys_out.specs.Drawings.{last_image, last_symbols}

-- the most branches that are open at once, where n are open before
abbrev pub nesting_from : ℕ → List (S.Symbol ℤ) → ℕ
nesting_from n [] = n
nesting_from n (x ∷ xs) = max n (nesting_from (saved_after x n) xs)

-- the most branches of the last level's image that are open at once; where the image is refused, of what comes before
abbrev pub image_nesting : System → List (List Spotted) → ℕ
image_nesting s levels = nesting_from 0 (last_image s levels).symbols

-- the image of the last level is nested so deep; or it is refused, for this reason
abbrev pub IsNesting : System → List (List Spotted) → Result ℕ ImageRefusal → Type 0
IsNesting s levels (Ok n) = (n ≡ image_nesting s levels) × ((last_image s levels).refusal ≡ None)
IsNesting s levels (Err e) = (last_image s levels).refusal ≡ Some (refusal_of e)

-- a branch is open where one is ended
abbrev pub CanEnd : S.Symbol ℤ → ℕ → Type 0
CanEnd S.Pop n = 0 < n
CanEnd x n = Unit {0}

-- each `]` ends a branch, where n are open before
abbrev pub Closes : ℕ → List (S.Symbol ℤ) → Type 0
Closes n [] = Unit {0}
Closes n (x ∷ xs) = CanEnd x n × Closes (saved_after x n) xs

-- a turtle can go over all these symbols
pub record CanGo (xs : List (S.Symbol ℤ)) (w : RoomyTurtle) : Type 0 where
  pub closes : Closes (length w.turtle.saved) xs
  pub room : nesting_from (length w.turtle.saved) xs ≤ w.room

-- the view tells the last level of a well-spelled system, which is balanced and has fewer symbols than there are numbers of 32 bits
pub record HasLast (s : System) (levels : List (List Spotted)) : Type 0 where
  pub spelled : WellSpelled s
  pub level : s.depth < length levels
  pub few : length (spots_at levels s.depth) < 2 ^ 32
  pub balance : level_balanced 0 (last_symbols (λ tag. []) s levels) ≡ true
