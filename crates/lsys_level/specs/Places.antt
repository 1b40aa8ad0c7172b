-- The kept symbols, as a view tells them.
use Rattle.std.specs.Prelude.{◌≡◌, ℕ, ℤ, ◌+◌, ◌<◌, ◌≤◌, Bool, true, false, Some, List, [], ◌∷◌, map, length, take, drop, slice_get}
use Rattle.lsys_spec.specs.Levels.{AreMates, plain}
use Rattle.lsys_spec.specs.Levels as L
use Rattle.lsys_syntax.specs.Strings.{plus}
use Rattle.lsys_module.specs.Views.{module_name, string_of}
use Rattle.lsys_module.specs.declared.symbol.Symbol.{Symbol}
use Rattle.lsys_module.specs.declared.symbol.Symbol.TheVariants as symbols
use Rattle.lsys_level.specs.declared.place.KeptKind.{KeptKind}
use Rattle.lsys_level.specs.declared.place.KeptKind.TheVariants as kinds
use Rattle.lsys_level.specs.declared.place.KeptSymbol.{KeptSymbol}
use Rattle.lsys_level.specs.Spots.{Seen, Push, Pop, Module, Spotted, with_lineage, level_by, IsMate, IsBracket}

-- what is seen of a symbol; a level has no cut, which would be passed over like a module
abbrev pub seen_in : Symbol → Seen
seen_in symbols.Push = Push
seen_in symbols.Pop = Pop
seen_in symbols.Cut = Module (record { name = plus; params = [] })
seen_in (symbols.Module m) = Module (record { name = module_name m.name; params = m.params })

-- the symbols with their tags and keys, one of each per symbol
abbrev pub spots_of : List Symbol → List ℕ → List ℕ → List Spotted
spots_of [] ts ks = []
spots_of (s ∷ ss) [] ks = []
spots_of (s ∷ ss) (t ∷ ts) [] = []
spots_of (s ∷ ss) (t ∷ ts) (k ∷ ks) = record { seen = seen_in s; tag = t; key = k } ∷ spots_of ss ts ks

abbrev pub has_cut : List Symbol → Bool
has_cut [] = false
has_cut (symbols.Cut ∷ ss) = true
has_cut (s ∷ ss) = has_cut ss

-- the symbols as those of a level in which all lineages are empty
abbrev pub bare_symbol : Symbol → L.LevelSymbol
bare_symbol s = with_lineage [] (seen_in s)

-- each bracket's mate is told
pub record Mates (x : List L.LevelSymbol) (mates : List ℕ) : Type 0 where
  pub same : length mates ≡ length x
  pub opens : (p m : ℕ) (l : List ℕ) → slice_get mates p ≡ Some m → slice_get x p ≡ Some (L.Push l) → (p < m) × (m < length x) × AreMates x p m
  pub closes : (p m : ℕ) (l : List ℕ) → slice_get mates p ≡ Some m → slice_get x p ≡ Some (L.Pop l) → (m < p) × AreMates x m p

-- what is seen of a kept symbol, by its kind, its name and its parameters
abbrev pub seen_by_kind : KeptKind → List ℕ → List ℤ → Seen
seen_by_kind kinds.Push name params = Push
seen_by_kind kinds.Pop name params = Pop
seen_by_kind kinds.Module name params = Module (record { name = module_name name; params = params })

-- the parameters of a symbol
abbrev pub params_in : Symbol → List ℤ
params_in (symbols.Module m) = m.params
params_in s = []

-- a symbol as it is kept, with its mate's place if it is a bracket, and where its parameters begin if it is a module
abbrev pub kept_place : Symbol → ℕ → ℕ → ℕ → ℕ → KeptSymbol
kept_place symbols.Push mate start t k = record { key = k; name = 43 ∷ []; link = mate; tag = t; arity = 0; kind = kinds.Push }
kept_place symbols.Pop mate start t k = record { key = k; name = 43 ∷ []; link = mate; tag = t; arity = 0; kind = kinds.Pop }
kept_place symbols.Cut mate start t k = record { key = k; name = 43 ∷ []; link = start; tag = t; arity = 0; kind = kinds.Module }
kept_place (symbols.Module m) mate start t k = record { key = k; name = m.name; link = start; tag = t; arity = length m.params; kind = kinds.Module }

-- a kept symbol, whose parameters stand in this list
abbrev pub spotted : List ℤ → KeptSymbol → Spotted
spotted values a = record { seen = seen_by_kind a.kind a.name (take a.arity (drop a.link values)); tag = a.tag; key = a.key }

-- the parameters of a module stand in the list
abbrev pub HasParamsWithin : KeptKind → ℕ → ℕ → Type 0
HasParamsWithin kinds.Module end room = end ≤ room
HasParamsWithin k end room = Unit {0}

pub record Fits (values : List ℤ) (a : KeptSymbol) : Type 0 where
  pub few : a.arity ≤ 8
  pub within : HasParamsWithin a.kind (a.link + a.arity) (length values)

abbrev pub AllFit : List ℤ → List KeptSymbol → Type 0
AllFit values [] = Unit {0}
AllFit values (a ∷ more) = Fits values a × AllFit values more

-- each module's parameters are there, and each bracket's mate is told
pub record IsSoundRow (places : List KeptSymbol) (values : List ℤ) : Type 0 where
  pub fit : AllFit values places
  pub mates : (p : ℕ) (a : KeptSymbol) → slice_get places p ≡ Some a → IsBracket (spotted values a).seen → IsMate (map (spotted values) places) p a.link

-- a bracket as it is kept
abbrev pub bracket_place : KeptKind → ℕ → ℕ → ℕ → KeptSymbol
bracket_place kind mate t k =
    record { key = k; name = 43 ∷ []; link = mate; tag = t; arity = 0; kind = kind }

-- the string of a level is that of the symbols that it was made of
abbrev pub SpotsShowTheSymbols : Type 0
SpotsShowTheSymbols =
    (naming : ℕ → List ℕ) (symbols : List Symbol) (tags keys : List ℕ) → has_cut symbols ≡ false
    → length tags ≡ length symbols → length keys ≡ length symbols
    → map plain (level_by naming (spots_of symbols tags keys)) ≡ string_of symbols
