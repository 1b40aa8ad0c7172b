-- Symbols of levels with their tags.
use Rattle.std.specs.Prelude.{◌≡◌, ◌↔◌, ℕ, Bool, List, [], ◌∷◌, ◌++◌, ◌+◌, length, map, slice_index_or}
use Rattle.lsys_spec.specs.Systems.{Each}
use Rattle.lsys_spec.specs.Levels.{LevelSymbol, lineage}
use Rattle.lsys_level.specs.Spots.{Spotted}
use Rattle.lsys_laws.specs.KeptQuestions.{places_in}
use Rattle.lsys_flat.specs.Supplies.{AreNamed}

-- a symbol by its level and lineage, with its tag
pub record Tagged : Type 0 where
  pub level : ℕ
  pub line : List ℕ
  pub tag : ℕ

-- the symbols of level t with these tags
abbrev pub tagged : ℕ → List LevelSymbol → List ℕ → List Tagged
tagged t [] ks = []
tagged t (s ∷ x) [] = []
tagged t (s ∷ x) (k ∷ ks) = record { level = t; line = lineage s; tag = k } ∷ tagged t x ks

-- those of levels, the first of which is level t
abbrev pub all_tagged : ℕ → List (List LevelSymbol) → List (List ℕ) → List Tagged
all_tagged t [] kss = []
all_tagged t (x ∷ xs) [] = []
all_tagged t (x ∷ xs) (ks ∷ kss) = tagged t x ks ++ all_tagged (t + 1) xs kss

-- the tags are equal exactly where level and lineage are
abbrev pub Agree : Tagged → Tagged → Type 0
Agree a b = (a.tag ≡ b.tag) ↔ ((a.level ≡ b.level) × (a.line ≡ b.line))

abbrev pub AgreeAll : List Tagged → List Tagged → Type 0
AgreeAll old new = Each (λ a. Each (Agree a) new) old

-- New levels, the first of which is level t, were named one after another beside the old ones.
abbrev pub AllNamed : List (List LevelSymbol) → List (List ℕ) → List Bool → ℕ → ℕ → List (List LevelSymbol) → List (List ℕ) → Type 0
AllNamed xs olds used t from [] kss = Unit {0}
AllNamed xs olds used t from (y ∷ ys) [] = Unit {0}
AllNamed xs olds used t from (y ∷ ys) (ks ∷ kss) =
    (to : ℕ) × AreNamed (slice_index_or olds t []) used (places_in (slice_index_or xs t []) y) from ks to × AllNamed xs olds used (t + 1) to ys kss

-- the symbols that a view tells are as many as those of these levels, and have these tags
abbrev pub HaveTags : List (List LevelSymbol) → List (List ℕ) → List (List Spotted) → Type 0
HaveTags [] [] [] = Unit {0}
HaveTags (y ∷ ys) (ks ∷ kss) (x ∷ xs) = (length x ≡ length y) × (map (λ s. s.tag) x ≡ ks) × HaveTags ys kss xs
HaveTags ys kss xs = ⊥
