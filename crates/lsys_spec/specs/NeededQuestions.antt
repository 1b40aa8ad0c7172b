-- What an edit needs at most, and what its questions read.
use Rattle.std.specs.Prelude.{◌≡◌, ◌≤◌, ℕ, Ok, List, ◌↔◌, false, Some, slice_get}
use Rattle.lsys_spec.specs.Systems.{System, WellSpelled, Each}
use Rattle.lsys_spec.specs.Levels.{LevelSymbol, ModuleValue, lineage}
use Rattle.lsys_spec.specs.Meaning.{meaning}
use Rattle.lsys_spec.specs.Questions.{questions, need, least_visits, question, Question, question_at, is_needed}
use Rattle.lsys_spec.specs.LevelLaws.{candidates, candidate_visits, StandsIn}
use Rattle.lsys_spec.specs.Bodies.{Body}
use Rattle.lsys_spec.specs.Walks.{lineages_named}

-- the need of an edit is at most the number of its candidates
abbrev pub NeedsAreAtMostTheCandidates : Type 0
NeedsAreAtMostTheCandidates =
    (old new : System) (limit limit' : ℕ) (xs ys : List (List LevelSymbol))
    → WellSpelled old → WellSpelled new → meaning old limit ≡ Ok xs → meaning new limit' ≡ Ok ys
    → need (questions old xs) (questions new ys) ≤ candidates old new xs ys

-- the entries that have to be read for it are at most those of its candidates
abbrev pub LeastVisitsAreAtMostTheCandidates : Type 0
LeastVisitsAreAtMostTheCandidates =
    (old new : System) (limit limit' : ℕ) (xs ys : List (List LevelSymbol))
    → WellSpelled old → WellSpelled new → meaning old limit ≡ Ok xs → meaning new limit' ≡ Ok ys
    → least_visits (questions old xs) (questions new ys) ≤ candidate_visits old new xs ys

-- what an entry of a trace names stands in the level
abbrev pub TracesNameWhatStandsInTheLevel : Type 0
TracesNameWhatStandsInTheLevel =
    (s : System) (t : ℕ) (bs : List Body) (x : List LevelSymbol) (p : ℕ) (l : List ℕ) (m : ModuleValue)
    → Each (λ e. Each (StandsIn x) (lineages_named e)) (question s t bs x p l m).trace

-- a question isn't needed exactly where the old system has that very question
abbrev pub WhatIsNotNeededIsAnswered : Type 0
WhatIsNotNeededIsAnswered =
    (old new : System) (limit limit' : ℕ) (xs ys : List (List LevelSymbol))
    → WellSpelled old → WellSpelled new → meaning old limit ≡ Ok xs → meaning new limit' ≡ Ok ys
    → (i : ℕ) (q : Question) → slice_get (questions new ys) i ≡ Some q
    → (is_needed (questions old xs) q ≡ false)
    ↔ (question_at q.level (lineage q.own) (questions old xs) ≡ Some q)
