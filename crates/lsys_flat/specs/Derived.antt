-- A derivation that keeps its answers.
use Rattle.std.specs.Prelude.{◌≡◌, ◌≤◌, ℕ, Ok, Option, List}
use Rattle.lsys_syntax.specs.Limits.{greatest_module_limit}
use Rattle.lsys_spec.specs.Systems.{System, WellSpelled}
use Rattle.lsys_spec.specs.Levels as L
use Rattle.lsys_spec.specs.Meaning.{meaning}
use Rattle.lsys_spec.specs.Questions.{questions}
use Rattle.lsys_level.specs.Spots.{Spotted}
use Rattle.lsys_walks.specs.Stores.{Store}
use Rattle.lsys_match.specs.Kept.{Kept}
use Rattle.lsys_match.specs.TagQuestions.{TagAnswer}
use Rattle.lsys_flat.specs.Lines.{Descent}
use Rattle.lsys_flat.specs.Revised.{AreOldLevels, all_spots, tags_of}
use Rattle.lsys_flat.specs.Slots.{AreAllSlots}
use Rattle.lsys_flat.specs.Answers.{AreMadeWith, AllHoldOwnRuns}
use Rattle.lsys_flat.specs.Counted.{all_slots_in}
use Rattle.lsys_flat.specs.Rounds.{entries_of}

-- the system, the limit, what is seen of the levels, where their symbols come from with their tags, and for each symbol below the last level the answer to its question
pub record Derived : Type 0 where
  pub system : System
  pub limit : ℕ
  pub levels : List (List Spotted)
  pub lines : List Descent
  pub answers : List (List (Option TagAnswer))

-- The system is well spelled, and the levels are those that it means under the limit, and every question of theirs has its answer; the answers were made with the store, and no two hold a run in common.
pub record IsDerivation (s : System) (limit : ℕ) (levels : List (List Spotted)) (lines : List Descent) (kept : List (List (Option Kept))) (store : Store) : Type 0 where
  pub spelled : WellSpelled s
  pub meant : List (List L.LevelSymbol)
  pub is : meaning s limit ≡ Ok meant
  pub small : limit ≤ greatest_module_limit
  pub olds : AreOldLevels meant lines
  pub view : levels ≡ all_spots s.seed meant (tags_of lines)
  pub slots : AreAllSlots s 0 levels meant (all_slots_in store kept)
  pub made : AreMadeWith store kept
  pub own : AllHoldOwnRuns kept

-- an edit reads the entries of all the new system's questions
abbrev pub all_visits : System → System → List (List L.LevelSymbol) → List (List L.LevelSymbol) → ℕ
all_visits old new x y = entries_of (questions new y)
