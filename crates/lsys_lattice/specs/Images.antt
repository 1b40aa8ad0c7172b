-- What of a level's image, and of the levels below it, is of a part of the level.
use Rattle.std.specs.Prelude.{◌≡◌, ℕ, zero, suc, ◌+◌, ℤ, true, Result, Ok, List, ◌++◌, length}
use Rattle.lsys_syntax.specs.Strings as S
use Rattle.lsys_spec.specs.Systems.{System, Each}
use Rattle.lsys_spec.specs.Values.{◌and_then◌}
use Rattle.lsys_spec.specs.Levels.{LevelSymbol, level_balanced}
use Rattle.lsys_spec.specs.Cuts.{cut_on}
use Rattle.lsys_spec.specs.Meaning.{LevelRefusal, next_level}
use Rattle.lsys_spec.specs.Images.{ImageRefusal, image}
use Rattle.lsys_lattice.specs.Nodes.{HasPartBelow}

-- 1. the image

-- an image and what comes after it, where k symbols stand before it
abbrev pub and_after : Result (List (S.Symbol ℤ)) ImageRefusal → ℕ → (ℕ → Result (List (S.Symbol ℤ)) ImageRefusal) → Result (List (S.Symbol ℤ)) ImageRefusal
and_after r k after = r and_then λ ys. after (k + length ys) and_then λ more. Ok (ys ++ more)

abbrev pub HasBalancedImages : System → Type 0
HasBalancedImages s = Each (λ h. S.balanced 0 h.rule.successor ≡ true) s.homomorphisms

-- The image of a level has in its middle the image of the part alone.
pub record HasPartImage (s : System) (before part after : List LevelSymbol) (ys : List (S.Symbol ℤ)) : Type 0 where
  pub left : List (S.Symbol ℤ)
  pub own : List (S.Symbol ℤ)
  pub right : List (S.Symbol ℤ)
  pub is : ys ≡ left ++ (own ++ right)
  pub of_before : image s before ≡ Ok left
  pub of_part : image s part ≡ Ok own
  pub of_after : image s after ≡ Ok right

-- 2. the levels below

-- the level n levels below a level t
abbrev pub level_below : System → ℕ → ℕ → List LevelSymbol → Result (List LevelSymbol) LevelRefusal
level_below s t zero x = Ok x
level_below s t (suc n) x = next_level s t x and_then λ y. level_below s (suc t) n y

-- Level t is `before ++ (part ++ after)`: in the level y, n levels below, the descendants of the part stand side by side, and are balanced.
abbrev pub HasDescendants : System → ℕ → ℕ → List LevelSymbol → List LevelSymbol → List LevelSymbol → List LevelSymbol → Type 0
HasDescendants s t zero before part after y = (level_balanced 0 part ≡ true) × (y ≡ before ++ (part ++ after))
HasDescendants s t (suc n) before part after y =
    (z : List LevelSymbol) × (below : HasPartBelow s t before part after z) × HasDescendants s (suc t) n below.left (cut_on below.cutting below.raw) below.right y
