-- What tags tell: a tag stands for a level and a lineage.
use Rattle.std.specs.Prelude.{◌≡◌, ℕ, ◌<◌, Some, List, [], map, slice_get, slice_index_or}
use Rattle.lsys_spec.specs.Levels.{IsLevel, plain}
use Rattle.lsys_spec.specs.Levels as L
use Rattle.lsys_level.specs.Spots.{Spotted, spots_at, level_by, spotted_at}

-- a tag stands at one place of one level alone
pub record HasOwnTags (levels : List (List Spotted)) : Type 0 where
  pub apart : (t u p q : ℕ) (a b : Spotted) → spotted_at levels t p ≡ Some a → spotted_at levels u q ≡ Some b → a.tag ≡ b.tag → (t ≡ u) × (p ≡ q)

-- every tag is below this number
pub record HasTagsBelow (bound : ℕ) (levels : List (List Spotted)) : Type 0 where
  pub below : (t p : ℕ) (a : Spotted) → spotted_at levels t p ≡ Some a → a.tag < bound

-- by this naming the symbols of each list are a level: a lineage stands there at one place alone
pub record NamesLevels (naming : ℕ → List ℕ) (levels : List (List Spotted)) : Type 0 where
  pub level : (t : ℕ) → IsLevel (level_by naming (spots_at levels t))

-- two tags are equal exactly where level and lineage are
pub record TagsTell (naming : ℕ → List ℕ) (levels : List (List Spotted)) : Type 0 where
  pub of_tags : (t u p q : ℕ) (a b : Spotted) → spotted_at levels t p ≡ Some a → spotted_at levels u q ≡ Some b → a.tag ≡ b.tag → (t ≡ u) × (naming a.tag ≡ naming b.tag)
  pub of_lineages : (t p q : ℕ) (a b : Spotted) → spotted_at levels t p ≡ Some a → spotted_at levels t q ≡ Some b → naming a.tag ≡ naming b.tag → a.tag ≡ b.tag

-- the strings that are seen are those of these levels
pub record ShowsLevels (x : List (List L.LevelSymbol)) (levels : List (List Spotted)) : Type 0 where
  pub string : (t : ℕ) → map plain (level_by (λ tag. []) (spots_at levels t)) ≡ map plain (slice_index_or x t [])

-- one naming makes them these levels
pub record IsNamed (x : List (List L.LevelSymbol)) (levels : List (List Spotted)) : Type 0 where
  pub naming : ℕ → List ℕ
  pub level : (t : ℕ) → level_by naming (spots_at levels t) ≡ slice_index_or x t []

-- the tag stands in what is seen of a level
pub record StandsThere (k : ℕ) (row : List Spotted) : Type 0 where
  pub place : ℕ
  pub spot : Spotted
  pub there : slice_get row place ≡ Some spot
  pub is : spot.tag ≡ k

-- a tag of the old level and one of the new are equal where their names are
abbrev pub NamesTell : (ℕ → List ℕ) → List Spotted → List Spotted → Type 0
NamesTell naming old new = (k m : ℕ) → StandsThere k old → StandsThere m new → naming k ≡ naming m → k ≡ m

-- two tags are equal exactly where level and lineage are, by any naming that makes levels of the lists
abbrev pub OwnTagsTell : Type 0
OwnTagsTell =
    (naming : ℕ → List ℕ) (x : List (List Spotted)) → HasOwnTags x → NamesLevels naming x
    → TagsTell naming x

-- where the strings are those of some levels, one naming makes the lists those levels
abbrev pub ShownLevelsAreNamed : Type 0
ShownLevelsAreNamed =
    (x : List (List L.LevelSymbol)) (spots : List (List Spotted)) → HasOwnTags spots
    → ShowsLevels x spots → IsNamed x spots
