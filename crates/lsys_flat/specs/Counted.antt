-- Two systems with their levels, and what is found out about the questions of the new one beside what is kept of the old one's.
use Rattle.std.specs.Prelude.{◌≡◌, ◌⊎◌, ℕ, Option, Some, Ok, List, [], map, option_map, slice_get, slice_index_or}
use Rattle.lsys_spec.specs.Systems.{System, WellSpelled}
use Rattle.lsys_spec.specs.Levels.{ModuleValue, LevelSymbol, Module}
use Rattle.lsys_spec.specs.Meaning.{meaning}
use Rattle.lsys_laws.specs.KeptQuestions.{places_in}
use Rattle.lsys_walks.specs.Stores.{Store}
use Rattle.lsys_level.specs.Spots.{Spotted, spots_at, level_by}
use Rattle.lsys_match.specs.Kept.{Kept}
use Rattle.lsys_match.specs.Stored.{answer_in}
use Rattle.lsys_match.specs.TagQuestions.{TagAnswer}
use Rattle.lsys_flat.specs.Revised.{AreNamedTogether, IsKeyed}
use Rattle.lsys_flat.specs.Slots.{AreFound, AreAllSlots, AreAllFound}

-- the system is well spelled, and these are its levels; or there are none yet
pub record MeansLevels (s : System) (xs : List (List LevelSymbol)) : Type 0 where
  pub spelled : WellSpelled s
  pub levels : (xs ≡ []) ⊎ ((limit : ℕ) × (meaning s limit ≡ Ok xs))

-- by every naming that makes a level of what is seen of it, each of its modules has the key of its lineage
pub record AreKeyed (seed : ℕ) (xs : List (List LevelSymbol)) (rows : List (List Spotted)) : Type 0 where
  pub each : (naming : ℕ → List ℕ) (t p : ℕ) (l : List ℕ) (m : ModuleValue) → level_by naming (spots_at rows t) ≡ slice_index_or xs t [] → slice_get (slice_index_or xs t []) p ≡ Some (Module l m)
      → IsKeyed naming seed (spots_at rows t) p l m

-- the levels xs of the old system, of which oldrows are seen, with what is kept of them; and the levels ys of the new one, of which rows are seen, with what is found out
pub record AreCompared (old new : System) (xs ys : List (List LevelSymbol)) (oldrows rows : List (List Spotted)) (kept fresh : List (List (Option TagAnswer))) (taken : List (List (Option ℕ))) : Type 0 where
  pub old_levels : MeansLevels old xs
  pub new_levels : MeansLevels new ys
  pub named : AreNamedTogether xs ys oldrows rows
  pub old_keys : AreKeyed old.seed xs oldrows
  pub new_keys : AreKeyed new.seed ys rows
  pub slots : AreAllSlots old 0 oldrows xs kept
  pub found : AreAllFound new 0 rows xs kept ys fresh taken

-- what answers are by this store
abbrev pub slots_in : Store → List (Option Kept) → List (Option TagAnswer)
slots_in s slots = map (option_map (answer_in s)) slots

abbrev pub all_slots_in : Store → List (List (Option Kept)) → List (List (Option TagAnswer))
all_slots_in s levels = map (slots_in s) levels

-- what is found out about level t of the new levels ys, beside the old levels xs with what is kept of them
abbrev pub AreFoundAt : System → List (List Spotted) → List (List LevelSymbol) → List (List LevelSymbol) → List (List (Option TagAnswer)) → List (Option TagAnswer) → List (Option ℕ) → ℕ → Type 0
AreFoundAt s rows xs ys olds fresh taken t =
    AreFound s t (slice_index_or rows t []) (slice_index_or ys t []) (slice_index_or olds t []) (places_in (slice_index_or xs t []) (slice_index_or ys t [])) fresh taken
