-- Which questions of an edit are known, which are candidates, and which it needs, level by level.
use Rattle.std.specs.Prelude.{◌≡◌, ◌↔◌, ℕ, false, Some, Ok, List, slice_get, [], get_or, slice_index_or, length, sum_by}
use Rattle.std.specs.List.{filter}
use Rattle.lsys_spec.specs.Systems.{System, WellSpelled, Each}
use Rattle.lsys_spec.specs.Levels.{LevelSymbol}
use Rattle.lsys_spec.specs.Meaning.{meaning}
use Rattle.lsys_spec.specs.Questions.{Question, questions, is_needed, question_at, questions_at, need, least_visits}
use Rattle.lsys_spec.specs.LevelLaws.{may_differ}
use Rattle.lsys_spec.specs.Cuts.{Distinct}
use Rattle.lsys_spec.specs.Standings.{place_of}
use Rattle.lsys_laws.specs.Candidates.{IsUntouched}
use Rattle.lsys_laws.specs.KeptQuestions.{kept_questions, kept_at, level_questions, present, needed_questions}

-- a question isn't needed exactly where it is one of the old system's, wherever that stands
abbrev pub WhatIsNotNeededWasAsked : Type 0
WhatIsNotNeededWasAsked =
    (old new : System) (limit limit' : ℕ) (xs ys : List (List LevelSymbol))
    → WellSpelled old → WellSpelled new → meaning old limit ≡ Ok xs → meaning new limit' ≡ Ok ys
    → (i : ℕ) (q : Question) → slice_get (questions new ys) i ≡ Some q
    → (is_needed (questions old xs) q ≡ false)
    ↔ ((k : ℕ) × (slice_get (questions old xs) k ≡ Some q))

-- a question is no candidate exactly where no clause of the definition touches it
abbrev pub CandidatesAreExactlyWhatIsTouched : Type 0
CandidatesAreExactlyWhatIsTouched =
    (old new : System) (limit limit' : ℕ) (xs ys : List (List LevelSymbol))
    → WellSpelled old → WellSpelled new → meaning old limit ≡ Ok xs → meaning new limit' ≡ Ok ys
    → (i : ℕ) (q : Question) → slice_get (questions new ys) i ≡ Some q
    → (may_differ old new xs ys q ≡ false)
    ↔ IsUntouched old new (get_or xs q.level []) (get_or ys q.level []) (questions old xs) q

-- the question at a level and lineage is what is kept at the lineage's place in that level
abbrev pub QuestionsAreKeptAtTheirPlaces : Type 0
QuestionsAreKeptAtTheirPlaces =
    (s : System) (levels : List (List LevelSymbol)) → Each Distinct levels
    → (t : ℕ) (l : List ℕ)
    → question_at t l (questions s levels)
    ≡ kept_at (kept_questions s levels t) (place_of l (slice_index_or levels t []))

-- the questions of a level are those of its places, in order
abbrev pub LevelsAskByPlaces : Type 0
LevelsAskByPlaces =
    (s : System) (t : ℕ) (x : List LevelSymbol)
    → questions_at s t x ≡ present (level_questions s t x)

-- the questions that an edit needs are, level by level, those that what is kept doesn't answer
abbrev pub NeededQuestionsStandLevelByLevel : Type 0
NeededQuestionsStandLevelByLevel =
    (old new : System) (xs ys : List (List LevelSymbol)) → Each Distinct xs
    → filter (is_needed (questions old xs)) (questions new ys) ≡ needed_questions old new xs ys

-- so the need is their number
abbrev pub NeedsAreCountedByLevels : Type 0
NeedsAreCountedByLevels =
    (old new : System) (xs ys : List (List LevelSymbol)) → Each Distinct xs
    → need (questions old xs) (questions new ys) ≡ length (needed_questions old new xs ys)

-- and the least visits are what they read in all
abbrev pub LeastVisitsAreWhatTheyRead : Type 0
LeastVisitsAreWhatTheyRead =
    (old new : System) (xs ys : List (List LevelSymbol)) → Each Distinct xs
    → least_visits (questions old xs) (questions new ys)
    ≡ sum_by (λ q. length q.trace) (needed_questions old new xs ys)
