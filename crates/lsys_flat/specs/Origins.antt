-- Symbols of a level, told by the place of each one's parent and its code and count among the parent's children.
use Rattle.std.specs.Prelude.{◌≡◌, ◌<◌, ◌+◌, ◌*◌, ℕ, Option, Some, List, [], ◌∷◌, ◌++◌, slice_get}
use Rattle.lsys_spec.specs.Draws.{number_base}
use Rattle.lsys_spec.specs.Levels.{LevelSymbol, Push, lineage}
use Rattle.lsys_spec.specs.Cuts.{Distinct}
use Rattle.lsys_laws.specs.KeptQuestions.{places_in}
use Rattle.lsys_flat.specs.declared.origin.Origin.{Origin}

-- the number among the parent's children
abbrev pub origin_number : Origin → ℕ
origin_number o = number_base * o.code + o.count

-- the symbol is this child of the symbol at that place
pub record IsChild (above : List LevelSymbol) (o : Origin) (s : LevelSymbol) : Type 0 where
  pub parent : LevelSymbol
  pub there : slice_get above o.parent ≡ Some parent
  pub number : lineage s ≡ lineage parent ++ origin_number o ∷ []
  pub small : o.count < number_base

-- each symbol of a level is, by its origin, the child of one above it
abbrev pub AreChildren : List LevelSymbol → List Origin → List LevelSymbol → Type 0
AreChildren above [] [] = Unit {0}
AreChildren above [] (s ∷ x) = ⊥
AreChildren above (o ∷ os) [] = ⊥
AreChildren above (o ∷ os) (s ∷ x) = IsChild above o s × AreChildren above os x

-- above level 0 stands one symbol alone, from which all lineages come
abbrev pub root_level : List LevelSymbol
root_level = Push [] ∷ []

-- Where the levels above were paired, so are the levels whose symbols have these origins: each new symbol with the old one of the same lineage, where there is one.
abbrev pub ArePaired : List Origin → List Origin → List (Option ℕ) → List (Option ℕ) → Type 0
ArePaired old new above mates =
    (a b x y : List LevelSymbol) → Distinct a → Distinct x → AreChildren a old x → AreChildren b new y → above ≡ places_in a b → mates ≡ places_in x y
