-- What a cut leaves of a part of a string, and of the children of a part of a level.
use Rattle.std.specs.Prelude.{◌≡◌, ◌+◌, ◌++◌, ℕ, zero, suc, true, Option, Some, None, Ok, List, [], ◌∷◌, length}
use Rattle.lsys_spec.specs.Systems.{System}
use Rattle.lsys_spec.specs.Levels.{LevelSymbol, Push, Pop, Module, level_balanced}
use Rattle.lsys_spec.specs.Cuts.{Raw, Plain, Cut, cut_on}
use Rattle.lsys_spec.specs.Meaning.{children_from}

-- after a part: whether a branch is being cut off, and how many are open in what is cut off
abbrev pub cutting_after_part : Option ℕ → List Raw → Option ℕ
cutting_after_part c [] = c
cutting_after_part None (Cut l ∷ x) = cutting_after_part (Some 0) x
cutting_after_part None (Plain s ∷ x) = cutting_after_part None x
cutting_after_part (Some n) (Cut l ∷ x) = cutting_after_part (Some n) x
cutting_after_part (Some n) (Plain (Module l m) ∷ x) = cutting_after_part (Some n) x
cutting_after_part (Some n) (Plain (Push l) ∷ x) = cutting_after_part (Some (suc n)) x
cutting_after_part (Some zero) (Plain (Pop l) ∷ x) = cutting_after_part None x
cutting_after_part (Some (suc n)) (Plain (Pop l) ∷ x) = cutting_after_part (Some n) x

-- how many modules stand before a place, where n stand before the part
abbrev pub modules_in : ℕ → List LevelSymbol → ℕ
modules_in n [] = n
modules_in n (Push l ∷ x) = modules_in n x
modules_in n (Pop l ∷ x) = modules_in n x
modules_in n (Module l m ∷ x) = modules_in (n + 1) x

-- Level t is `before ++ (part ++ after)`: the next level y has in its middle what a cut leaves of the children of the part, and this is balanced.
pub record HasPartBelow (s : System) (t : ℕ) (before part after y : List LevelSymbol) : Type 0 where
  pub raw : List Raw
  pub children : children_from s t (before ++ (part ++ after)) (length before) (modules_in 0 before) part ≡ Ok raw
  pub cutting : Option ℕ
  pub left : List LevelSymbol
  pub right : List LevelSymbol
  pub is : y ≡ left ++ (cut_on cutting raw ++ right)
  pub balanced : level_balanced 0 (cut_on cutting raw) ≡ true
