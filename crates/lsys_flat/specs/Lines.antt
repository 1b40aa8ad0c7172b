-- Where the symbols of levels come from, and their tags.
use Rattle.std.specs.Prelude.{◌≡◌, ℕ, List, [], ◌∷◌, length}
use Rattle.lsys_spec.specs.Levels.{LevelSymbol}
use Rattle.lsys_flat.specs.declared.origin.Origin.{Origin}
use Rattle.lsys_flat.specs.Origins.{AreChildren}
use Rattle.lsys_flat.specs.declared.ancestry.Ancestry.{Ancestry}

pub record Descent : Type 0 where
  pub origins : List Origin
  pub tags : List ℕ

abbrev pub line_of : Ancestry → Descent
line_of a = record { origins = a.origins.items; tags = a.tags.items }

abbrev pub no_line : Descent
no_line = record { origins = []; tags = [] }

-- Levels, one below another: the symbols of each come by their origins from the level above, and each has a tag.
abbrev pub AreLines : List LevelSymbol → List (List LevelSymbol) → List Descent → Type 0
AreLines above [] [] = Unit {0}
AreLines above [] (l ∷ ls) = ⊥
AreLines above (x ∷ xs) [] = ⊥
AreLines above (x ∷ xs) (l ∷ ls) = AreChildren above l.origins x × (length l.tags ≡ length x) × AreLines x xs ls
