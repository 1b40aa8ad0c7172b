-- How far a pass over the levels of a changed system has come, and what is the same there as before.
use Rattle.std.specs.Prelude.{◌≡◌, ◌+◌, ℕ, ℤ, Bool, true, Some, Ok, List, [], length, get_or, slice_get}
use Rattle.lsys_syntax.specs.Strings as S
use Rattle.lsys_spec.specs.Systems.{System, Each, WellSpelled}
use Rattle.lsys_spec.specs.Levels.{ModuleValue, LevelSymbol, Module, lineage, level_balanced, IsLevel}
use Rattle.lsys_spec.specs.Cuts.{Distinct}
use Rattle.lsys_spec.specs.Bodies.{group}
use Rattle.lsys_spec.specs.Meaning.{successor, meaning, meaning_to}
use Rattle.lsys_spec.specs.Questions.{Question, question, questions, question_at}
use Rattle.lsys_spec.specs.Standings.{is_candidate}

-- The old system means the levels xs, and the new one the levels ys up to level t. What it means after that level isn't
-- said, and each may have a limit of its own.
pub record AreMeantTo (old new : System) (xs ys : List (List LevelSymbol)) (t : ℕ) : Type 0 where
  pub old_spelled : WellSpelled old
  pub new_spelled : WellSpelled new
  pub old_limit : ℕ
  pub new_limit : ℕ
  pub old_meant : meaning old old_limit ≡ Ok xs
  pub new_meant : meaning_to new new_limit t ≡ Ok ys

-- Level t of a system: its brackets are balanced, and each has its mate; each lineage stands there once, and has t + 1
-- numbers.
pub record IsGrownLevel (t : ℕ) (x : List LevelSymbol) : Type 0 where
  pub balanced : level_balanced 0 x ≡ true
  pub level : IsLevel x
  pub distinct : Distinct x
  pub generations : Each (λ a. length (lineage a) ≡ t + 1) x

-- the module m of lineage l stands at place p of level t, which is y
pub record IsModuleAt (ys : List (List LevelSymbol)) (t : ℕ) (y : List LevelSymbol) (p : ℕ)
    (l : List ℕ) (m : ModuleValue) : Type 0 where
  pub level : slice_get ys t ≡ Some y
  pub stands : slice_get y p ≡ Some (Module l m)

-- its question
abbrev pub module_question : System → ℕ → List LevelSymbol → ℕ → List ℕ → ModuleValue → Question
module_question s t y p l m = question s t (group s t m.name (length m.params)) y p l m

-- a question of the new level t, which is y, is a candidate (As in `may_differ`: where the old system has no such level,
-- any level will do.)
abbrev pub is_candidate_at : System → System → List (List LevelSymbol) → ℕ → List LevelSymbol
    → Question → Bool
is_candidate_at old new xs t y q = is_candidate old new (get_or xs t []) y (questions old xs) q

-- The old system asked the question of the module at place p of the new level y. The successor is no fault.
pub record IsAsBefore (old new : System) (xs : List (List LevelSymbol)) (t : ℕ) (y : List LevelSymbol)
    (p : ℕ) (l : List ℕ) (m : ModuleValue) : Type 0 where
  pub same : question_at t l (questions old xs) ≡ Some (module_question new t y p l m)
  pub kids : List (S.Symbol ℤ)
  pub is : successor new t y p l m ≡ Ok kids
