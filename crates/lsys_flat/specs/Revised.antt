-- New levels beside old ones.
use Rattle.std.specs.Prelude.{◌≡◌, ◌<◌, ◌≤◌, ◌+◌, ◌^◌, ℕ, zero, suc, true, Option, Some, List, [], ◌∷◌, ◌++◌, length, map, sum_by, slice_get, slice_index_or}
use Rattle.lsys_syntax.specs.Calls.{Lent}
use Rattle.lsys_spec.specs.Draws.{key_of}
use Rattle.lsys_spec.specs.Systems.{Each}
use Rattle.lsys_spec.specs.Levels as L
use Rattle.lsys_spec.specs.Levels.{LevelSymbol, lineage, level_balanced}
use Rattle.lsys_spec.specs.Cuts.{Distinct}
use Rattle.lsys_level.specs.Spots.{Module, Spotted, seen_by, level_by, spots_at}
use Rattle.lsys_laws.specs.KeptQuestions.{places_in}
use Rattle.lsys_flat.specs.declared.origin.Origin.{Origin}
use Rattle.lsys_flat.specs.Origins.{root_level, ArePaired}
use Rattle.lsys_flat.specs.Supplies.{Supply, in_use, tags_held, AreNamed, GivesTags}
use Rattle.lsys_level.specs.Places.{spots_of}
use Rattle.lsys_level.specs.Tags.{NamesTell}
use Rattle.lsys_flat.specs.Tagged.{all_tagged, AgreeAll}
use Rattle.lsys_flat.specs.Grown.{HasSymbols}
use Rattle.lsys_flat.specs.declared.level.Level.{Level}
use Rattle.lsys_flat.specs.Lines.{Descent, AreLines}

pub record Revised : Type 0 where
  pub old_lines : List Descent
  pub view : List (List Spotted)
  pub lines : List Descent
  pub supply : Supply
  pub mates : List (Option ℕ)

abbrev pub tags_of : List Descent → List (List ℕ)
tags_of ls = map (λ l. l.tags) ls

-- 1. the old levels

-- Each lineage stands once in a level, tags are equal exactly where level and lineage are, and the symbols are fewer than numbers have.
pub record AreOldLevels (xs : List (List LevelSymbol)) (old : List Descent) : Type 0 where
  pub distinct : Each Distinct xs
  pub lines : AreLines root_level xs old
  pub agree : AgreeAll (all_tagged 0 xs (tags_of old)) (all_tagged 0 xs (tags_of old))

-- 2. the new ones

-- a level with these tags, and with its keys by a seed
abbrev pub spots_by : ℕ → List LevelSymbol → List ℕ → List Spotted
spots_by seed [] ks = []
spots_by seed (s ∷ x) [] = []
spots_by seed (s ∷ x) (k ∷ ks) = record { seen = seen_by s; tag = k; key = key_of seed (lineage s) } ∷ spots_by seed x ks

abbrev pub all_spots : ℕ → List (List LevelSymbol) → List (List ℕ) → List (List Spotted)
all_spots seed [] kss = []
all_spots seed (y ∷ ys) [] = []
all_spots seed (y ∷ ys) (ks ∷ kss) = spots_by seed y ks ∷ all_spots seed ys kss

-- New levels, the first of which is level t, were named one after another beside the old ones; and the number from which tags are given then.
abbrev pub AreAllNamed : List (List LevelSymbol) → List (List ℕ) → Supply → ℕ → ℕ → List (List LevelSymbol) → List (List ℕ) → Type 0
AreAllNamed xs olds s t from [] [] = from ≡ s.next
AreAllNamed xs olds s t from [] (ks ∷ kss) = ⊥
AreAllNamed xs olds s t from (y ∷ ys) [] = ⊥
AreAllNamed xs olds s t from (y ∷ ys) (ks ∷ kss) =
    (to : ℕ) × AreNamed (slice_index_or olds t []) s.used (places_in (slice_index_or xs t []) y) from ks to × AreAllNamed xs olds s (t + 1) to ys kss

-- the level above level t, of which the others are these
abbrev pub above_level : List (List LevelSymbol) → ℕ → List LevelSymbol
above_level xs zero = root_level
above_level xs (suc t) = slice_index_or xs t []

pub record IsRevised (seed : ℕ) (xs ys : List (List LevelSymbol)) (r : Revised) : Type 0 where
  pub olds : AreOldLevels xs r.old_lines
  pub in_use : Each (λ a. in_use r.supply.used a.tag ≡ true) (all_tagged 0 xs (tags_of r.old_lines))
  pub distinct : Each Distinct ys
  pub lines : AreLines root_level ys r.lines
  pub view : r.view ≡ all_spots seed ys (tags_of r.lines)
  pub named : AreAllNamed xs (tags_of r.old_lines) r.supply 0 0 ys (tags_of r.lines)
  pub mates : r.mates ≡ places_in (above_level xs (length ys)) (above_level ys (length ys))
  pub few : tags_held r.supply ≤ sum_by length xs + sum_by length ys

-- the next level: balanced, each lineage stands there once, and its symbols come from the last one; and there are numbers enough
pub record IsNextLevel (seed : ℕ) (xs ys : List (List LevelSymbol)) (y : List LevelSymbol) (level : Level) : Type 0 where
  pub distinct : Distinct y
  pub balanced : level_balanced 0 y ≡ true
  pub symbols : HasSymbols seed (above_level ys (length ys)) y level.symbols level.origins.items level.keys.items
  pub few : sum_by length xs + sum_by length ys + length y < 2 ^ 32

-- no level was made yet beside those of which this is kept
abbrev pub IsBegunBeside : List Descent → Revised → Type 0
IsBegunBeside old r = (seed : ℕ) (xs : List (List LevelSymbol)) → AreOldLevels xs old → IsRevised seed xs [] r

-- the next level was added
abbrev pub GrowsByLevel : Level → Revised → Revised → Type 0
GrowsByLevel level old new =
    (seed : ℕ) (xs ys : List (List LevelSymbol)) (y : List LevelSymbol) → IsRevised seed xs ys old → IsNextLevel seed xs ys y level → IsRevised seed xs (ys ++ y ∷ []) new

-- The symbols of a level, which have these origins, are paired with those of an old one, and named: what changes of a revision, and the tags.
pub record AreNamedBeside (old : Descent) (origins : List Origin) (before after : Revised) (tags : List ℕ) : Type 0 where
  pub paired : ArePaired old.origins origins before.mates after.mates
  pub each : length after.mates ≡ length origins
  pub named : GivesTags after.mates old.tags before.supply after.supply tags
  pub used : after.supply.used ≡ before.supply.used
  pub taken : tags_held after.supply ≤ tags_held before.supply + length after.mates

abbrev pub NamesBeside : Descent → List Origin → Lent Revised → List ℕ → Type 0
NamesBeside old origins r tags = AreNamedBeside old origins r.entry.now r.exit.now tags

-- a level with these tags is kept after those that are there
abbrev pub with_next_level : Level → List ℕ → Revised → Revised
with_next_level level tags r = record r {
  view = r.view ++ spots_of level.symbols tags level.keys.items ∷ [];
  lines = r.lines ++ record { origins = level.origins.items; tags = tags } ∷ [];
}

-- by some seed and levels this is the next level
pub record CanAdd (r : Revised) (level : Level) : Type 0 where
  pub seed : ℕ
  pub xs : List (List LevelSymbol)
  pub ys : List (List LevelSymbol)
  pub y : List LevelSymbol
  pub so_far : IsRevised seed xs ys r
  pub next : IsNextLevel seed xs ys y level

-- 3. by one naming of the tags

-- One naming makes the old levels of what was seen of them, and the new ones of what is seen; and on each level the tags of both are equal where their names are.
pub record AreNamedTogether (xs ys : List (List LevelSymbol)) (old new : List (List Spotted)) : Type 0 where
  pub naming : ℕ → List ℕ
  pub old_levels : (t : ℕ) → level_by naming (spots_at old t) ≡ slice_index_or xs t []
  pub new_levels : (t : ℕ) → level_by naming (spots_at new t) ≡ slice_index_or ys t []
  pub across : (t : ℕ) → NamesTell naming (spots_at old t) (spots_at new t)

-- the module m stands at place p; its tag names its lineage l, of which it has the key
pub record IsKeyed (naming : ℕ → List ℕ) (seed : ℕ) (row : List Spotted) (p : ℕ) (l : List ℕ) (m : L.ModuleValue) : Type 0 where
  pub tag : ℕ
  pub here : slice_get row p ≡ Some (record { seen = Module m; tag = tag; key = key_of seed (naming tag) })
  pub line : naming tag ≡ l
