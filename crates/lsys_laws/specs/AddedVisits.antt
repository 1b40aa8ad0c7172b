-- What an edit asks and reads, once there is one level more.
use Rattle.std.specs.Prelude.{◌≡◌, ◌+◌, ◌++◌, ◌∷◌, ℕ, List, [], length, get_or}
use Rattle.lsys_spec.specs.Systems.{System}
use Rattle.lsys_spec.specs.Levels.{LevelSymbol}
use Rattle.lsys_spec.specs.LevelLaws.{candidates, candidate_visits}
use Rattle.lsys_spec.specs.Questions.{questions, need, least_visits}
use Rattle.lsys_laws.specs.LevelCounts.{candidates_at, visits_at, needed_at, least_at}

-- with one level more, the candidates of the level above it count too
abbrev pub CandidatesAddUpByLevels : Type 0
CandidatesAddUpByLevels =
    (old new : System) (xs ys : List (List LevelSymbol)) (z : List LevelSymbol) (t : ℕ)
    → length ys ≡ t + 1
    → candidates old new xs (ys ++ z ∷ [])
    ≡ candidates old new xs ys + candidates_at old new xs t (get_or ys t [])

-- and what they read counts too
abbrev pub CandidateVisitsAddUpByLevels : Type 0
CandidateVisitsAddUpByLevels =
    (old new : System) (xs ys : List (List LevelSymbol)) (z : List LevelSymbol) (t : ℕ)
    → length ys ≡ t + 1
    → candidate_visits old new xs (ys ++ z ∷ [])
    ≡ candidate_visits old new xs ys + visits_at old new xs t (get_or ys t [])

-- and so do those of its questions that have to be asked
abbrev pub NeedsAddUpByLevels : Type 0
NeedsAddUpByLevels =
    (old new : System) (xs ys : List (List LevelSymbol)) (z : List LevelSymbol) (t : ℕ)
    → length ys ≡ t + 1
    → need (questions old xs) (questions new (ys ++ z ∷ []))
    ≡ need (questions old xs) (questions new ys) + needed_at old new xs t (get_or ys t [])

-- and what they read
abbrev pub LeastVisitsAddUpByLevels : Type 0
LeastVisitsAddUpByLevels =
    (old new : System) (xs ys : List (List LevelSymbol)) (z : List LevelSymbol) (t : ℕ)
    → length ys ≡ t + 1
    → least_visits (questions old xs) (questions new (ys ++ z ∷ []))
    ≡ least_visits (questions old xs) (questions new ys)
    + least_at old new xs t (get_or ys t [])
