-- What a view tells: lists of symbols, each with its tag and its key. A naming of the tags makes levels of them.
use Rattle.std.specs.Prelude.{◌≡◌, ℕ, ◌<◌, Some, Option, List, [], map, length, slice_get, slice_index_or, option_map}
use Rattle.lsys_spec.specs.Levels.{ModuleValue, AreMates}
use Rattle.lsys_spec.specs.Levels as L

-- what is seen: a bracket or a module
pub data Seen : Type 0 where
  Push : Seen
  Pop : Seen
  Module : ModuleValue → Seen

pub record Spotted : Type 0 where
  pub seen : Seen
  pub tag : ℕ
  pub key : ℕ

-- the symbol with this lineage
abbrev pub with_lineage : List ℕ → Seen → L.LevelSymbol
with_lineage l Push = L.Push l
with_lineage l Pop = L.Pop l
with_lineage l (Module m) = L.Module l m

-- what is seen of a symbol
abbrev pub seen_by : L.LevelSymbol → Seen
seen_by (L.Push l) = Push
seen_by (L.Pop l) = Pop
seen_by (L.Module l m) = Module m

-- the symbol, where a naming tells the lineage of each tag
abbrev pub named : (ℕ → List ℕ) → Spotted → L.LevelSymbol
named naming s = with_lineage (naming s.tag) s.seen

-- the level that the symbols are, where a naming tells the lineage of each tag
abbrev pub level_by : (ℕ → List ℕ) → List Spotted → List L.LevelSymbol
level_by naming x = map (named naming) x

-- the symbols of a level, none past the last
abbrev pub spots_at : List (List Spotted) → ℕ → List Spotted
spots_at levels t = slice_index_or levels t []

-- the symbol at place p of level t
abbrev pub spotted_at : List (List Spotted) → ℕ → ℕ → Option Spotted
spotted_at levels t p = slice_get (spots_at levels t) p

-- level t has a place p
abbrev pub IsSpot : List (List Spotted) → ℕ → ℕ → Type 0
IsSpot levels t p = p < length (spots_at levels t)

abbrev pub IsBracket : Seen → Type 0
IsBracket Push = Unit {0}
IsBracket Pop = Unit {0}
IsBracket (Module m) = ⊥

-- a bracket stands at this place
pub record IsBracketAt (x : List Spotted) (p : ℕ) : Type 0 where
  pub bracket : Spotted
  pub is : slice_get x p ≡ Some bracket
  pub kind : IsBracket bracket.seen

-- q is the place of the mate of the bracket at p, whatever the lineages are
pub record IsMate (x : List Spotted) (p q : ℕ) : Type 0 where
  pub within : q < length x
  pub opens : option_map (λ s. s.seen) (slice_get x p) ≡ Some Push → (p < q) × ((naming : ℕ → List ℕ) → AreMates (level_by naming x) p q)
  pub closes : option_map (λ s. s.seen) (slice_get x p) ≡ Some Pop → (q < p) × ((naming : ℕ → List ℕ) → AreMates (level_by naming x) q p)
