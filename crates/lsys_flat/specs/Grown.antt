-- A level that is being made, symbol by symbol of the level before it.
use Rattle.std.specs.Prelude.{◌≡◌, ◌<◌, ◌≤◌, ◌+◌, ◌++◌, ◌==◌, ℕ, ℤ, Bool, true, false, Option, Some, None, List, [], ◌∷◌, length, map, slice_get, if◌then◌else◌}
use Rattle.lsys_spec.specs.Morphisms.{raw_plain}
use Rattle.lsys_syntax.specs.Calls.{Lent}
use Rattle.lsys_syntax.specs.Commands.{Numbering}
use Rattle.lsys_syntax.specs.Strings as S
use Rattle.lsys_spec.specs.Draws.{child_key_of, key_of}
use Rattle.lsys_spec.specs.Numbers.{code_of}
use Rattle.lsys_spec.specs.Levels as L
use Rattle.lsys_spec.specs.Levels.{lineage, plain}
use Rattle.lsys_spec.specs.Cuts.{Raw, cut}
use Rattle.lsys_spec.specs.Meaning.{children}
use Rattle.lsys_module.specs.Views.{symbol_of, string_of}
use Rattle.lsys_module.specs.declared.symbol.Symbol.{Symbol}
use Rattle.lsys_reading.specs.Commands.{numbering_of}
use Rattle.lsys_rewrite.specs.Cutting.{symbol_stays, next_cutting}
use Rattle.lsys_flat.specs.declared.origin.Origin.{Origin}
use Rattle.lsys_flat.specs.Origins.{origin_number, AreChildren}
use Rattle.lsys_flat.specs.Counts.{origin_at}
use Rattle.lsys_flat.specs.declared.level.Level.{Level}
use Rattle.lsys_flat.specs.declared.numbers.ChildNumbers.{ChildNumbers}

-- 1. by symbols

pub record Grown : Type 0 where
  pub symbols : List Symbol
  pub origins : List Origin
  pub keys : List ℕ
  pub parents : ℕ
  pub cutting : Option ℕ
  pub room : ℕ
  pub fits : Bool

abbrev pub nothing_grown : ℕ → Grown
nothing_grown room = record { symbols = []; origins = []; keys = []; parents = 0; cutting = None; room = room; fits = true }

-- by a numbering
pub record Making : Type 0 where
  pub numbering : Numbering
  pub grown : Grown

abbrev pub nothing_made : Numbering → ℕ → Making
nothing_made g room = record { numbering = g; grown = nothing_grown room }

-- one symbol more, of an origin, whose parent has this key
abbrev pub grown_by_symbol : Origin → ℕ → Symbol → Grown → Grown
grown_by_symbol o key s g = record g { symbols = g.symbols ++ s ∷ []; origins = g.origins ++ o ∷ []; keys = g.keys ++ child_key_of key (origin_number o) ∷ [] }

abbrev pub where_room : Origin → ℕ → Symbol → Grown → Grown
where_room o key s g = if length g.symbols == g.room then record g { fits = false } else grown_by_symbol o key s g

-- one child more, which may be cut off
abbrev pub with_child : Origin → ℕ → Symbol → Grown → Grown
with_child o key s g =
    let further = record g { cutting = next_cutting g.cutting (symbol_of s) } in
    if g.fits then (if symbol_stays g.cutting (symbol_of s) then where_room o key s further else further) else g

-- children more of the symbol at a place, after n of them that have these codes
abbrev pub with_children : Numbering → ℕ → ℕ → ℕ → List ℕ → List Symbol → Grown → Grown
with_children g parent key n before [] made = made
with_children g parent key n before (s ∷ ss) made =
    let code = code_of (symbol_of s) in with_children g parent key (n + 1) (code ∷ before) ss (with_child (origin_at g parent n before code) key s made)

-- 2. by the definitions

-- after these symbols, whether a branch is being cut off and how many others are open in it
abbrev pub cutting_after_all : Option ℕ → List Raw → Option ℕ
cutting_after_all o [] = o
cutting_after_all o (r ∷ x) = cutting_after_all (next_cutting o (raw_plain r)) x

-- the symbols of a level y, each with its origin in the level above it and its key
pub record HasSymbols (seed : ℕ) (above y : List L.LevelSymbol) (symbols : List Symbol) (origins : List Origin) (ks : List ℕ) : Type 0 where
  pub string : map plain y ≡ string_of symbols
  pub children : AreChildren above origins y
  pub keys : ks ≡ map (λ s. key_of seed (lineage s)) y

pub record HoldsCut (seed : ℕ) (above : List L.LevelSymbol) (raw : List Raw) (g : Grown) : Type 0 where
  pub cutting : g.cutting ≡ cutting_after_all None raw
  pub symbols : HasSymbols seed above (cut raw) g.symbols g.origins g.keys
  pub within : length (cut raw) ≤ g.room

-- What the cut leaves of the children so far, by a seed and the level above, or there is no room for it.
pub record HasGrown (seed : ℕ) (above : List L.LevelSymbol) (raw : List Raw) (g : Grown) : Type 0 where
  pub holds : g.fits ≡ true → HoldsCut seed above raw g
  pub over : g.fits ≡ false → g.room < length (cut raw)

-- the level that the cut leaves, or it has more symbols than there is room for
abbrev pub IsMadeWithin : ℕ → List L.LevelSymbol → List Raw → ℕ → Option Level → Type 0
IsMadeWithin seed above raw room None = room < length (cut raw)
IsMadeWithin seed above raw room (Some level) = (length (cut raw) ≤ room) × HasSymbols seed above (cut raw) level.symbols level.origins.items level.keys.items

-- by whatever seed and level above it, this is what was made of what has grown
abbrev pub IsFinished : Grown → Option Level → Type 0
IsFinished g level = (seed : ℕ) (above : List L.LevelSymbol) (raw : List Raw) → HasGrown seed above raw g → IsMadeWithin seed above raw g.room level

-- these children of the next symbol, which has this key, have grown
abbrev pub GrowsByChildren : Numbering → ℕ → List (S.Symbol ℤ) → Grown → Grown → Type 0
GrowsByChildren g key ys before after =
    (seed : ℕ) (above : List L.LevelSymbol) (raw : List Raw) (parent : L.LevelSymbol) → HasGrown seed above raw before → slice_get above before.parents ≡ Some parent → key ≡ key_of seed (lineage parent)
    → HasGrown seed above (raw ++ children g (lineage parent) ys) after

abbrev pub AddsChildren : ℕ → List (S.Symbol ℤ) → Making → Making → Type 0
AddsChildren key ys before after = GrowsByChildren before.numbering key ys before.grown after.grown

abbrev pub AddsByNumbers : ℕ → List Symbol → Lent ChildNumbers → Lent Grown → Type 0
AddsByNumbers key successor numbers made = GrowsByChildren (numbering_of numbers.entry.now.numbering) key (string_of successor) made.entry.now made.exit.now
