-- What an edit asks and reads, level by level.
use Rattle.std.specs.Prelude.{ℕ, Bool, List, length, count_by, sum_by, if◌then◌else◌}
use Rattle.lsys_spec.specs.Systems.{System}
use Rattle.lsys_spec.specs.Levels.{LevelSymbol}
use Rattle.lsys_spec.specs.Questions.{Question, questions, questions_at, is_needed}
use Rattle.lsys_laws.specs.Passes.{is_candidate_at}

-- what the questions that pass read in all
abbrev pub read_by : (Question → Bool) → List Question → ℕ
read_by test qs = sum_by (λ q. if test q then length q.trace else 0) qs

-- how many questions of the new level t, which is y, the old system didn't answer, and what they read
abbrev pub needed_at : System → System → List (List LevelSymbol) → ℕ → List LevelSymbol → ℕ
needed_at old new xs t y = count_by (is_needed (questions old xs)) (questions_at new t y)

abbrev pub least_at : System → System → List (List LevelSymbol) → ℕ → List LevelSymbol → ℕ
least_at old new xs t y = read_by (is_needed (questions old xs)) (questions_at new t y)

-- how many candidates it has, and what they read
abbrev pub candidates_at : System → System → List (List LevelSymbol) → ℕ → List LevelSymbol → ℕ
candidates_at old new xs t y = count_by (is_candidate_at old new xs t y) (questions_at new t y)

abbrev pub visits_at : System → System → List (List LevelSymbol) → ℕ → List LevelSymbol → ℕ
visits_at old new xs t y = read_by (is_candidate_at old new xs t y) (questions_at new t y)
