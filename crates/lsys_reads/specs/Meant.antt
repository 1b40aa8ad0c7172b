-- The levels that a system has, and the modules on them whose questions an edit disturbs.
use Rattle.std.specs.Prelude.{◌≡◌, ℕ, true, List, [], length, Result, Ok, Err, Some, get_or, slice_get}
use Rattle.lsys_spec.specs.Systems.{System}
use Rattle.lsys_spec.specs.Bodies.{group}
use Rattle.lsys_spec.specs.Levels.{ModuleValue, Module}
use Rattle.lsys_spec.specs.Levels as L
use Rattle.lsys_spec.specs.Meaning.{LevelRefusal, meaning, meaning_to}
use Rattle.lsys_spec.specs.Questions.{questions, is_needed}
use Rattle.lsys_laws.specs.Passes.{module_question, is_candidate_at}

-- the levels that a system has; none where it has none
abbrev pub levels_or_none : Result (List (List L.LevelSymbol)) LevelRefusal → List (List L.LevelSymbol)
levels_or_none (Ok xs) = xs
levels_or_none (Err e) = []

abbrev pub levels_meant : System → ℕ → List (List L.LevelSymbol)
levels_meant s limit = levels_or_none (meaning s limit)

-- those up to level t
abbrev pub meant_to : System → ℕ → ℕ → List (List L.LevelSymbol)
meant_to s limit t = levels_or_none (meaning_to s limit t)

-- level t of a system
abbrev pub level_to : System → ℕ → ℕ → List L.LevelSymbol
level_to s limit t = get_or (meant_to s limit t) t []

-- The module at place p of level t of a new system has a question that is a candidate.
pub record IsCandidate (old new : System) (limit t p : ℕ) : Type 0 where
  pub line : List ℕ
  pub own : ModuleValue
  pub stands : slice_get (level_to new limit t) p ≡ Some (Module line own)
  pub rules : group new t own.name (length own.params) ≡ [] → ⊥
  pub is : is_candidate_at old new (levels_meant old limit) t (level_to new limit t)
      (module_question new t (level_to new limit t) p line own) ≡ true

-- The module at place p of level t of a new system, which is y, has a question that the old system didn't answer.
pub record IsNeeded (old new : System) (limit t : ℕ) (y : List L.LevelSymbol) (p : ℕ) : Type 0 where
  pub line : List ℕ
  pub own : ModuleValue
  pub stands : slice_get y p ≡ Some (Module line own)
  pub rules : group new t own.name (length own.params) ≡ [] → ⊥
  pub is : is_needed (questions old (levels_meant old limit)) (module_question new t y p line own) ≡ true
