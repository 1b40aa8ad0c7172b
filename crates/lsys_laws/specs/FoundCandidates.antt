-- What is kept of a question that is no candidate, and how the candidates of a level are found.
use Rattle.std.specs.Prelude.{◌≡◌, ℕ, false, List, true, None, ◌≤◌, ◌+◌, length, [], get_or, ◌||◌, Some, not, slice_get, flat_map}
use Rattle.lsys_spec.specs.Systems.{System}
use Rattle.lsys_spec.specs.Levels.{ModuleValue, LevelSymbol}
use Rattle.lsys_spec.specs.Questions.{questions, question_at, Question}
use Rattle.lsys_spec.specs.Standings.{place_of, is_disturbed, any_disturbed}
use Rattle.lsys_spec.specs.Walks.{Entry, lineages_named, any_holds}
use Rattle.lsys_laws.specs.Passes.{AreMeantTo, IsModuleAt, module_question, is_candidate_at, IsAsBefore}
use Rattle.lsys_laws.specs.Groups.{has_same_rules, AreSameRules}

-- a question of the new system that is no candidate is the
-- old system's, and its old answer is no fault
abbrev pub WhatIsNoCandidateIsAsBefore : Type 0
WhatIsNoCandidateIsAsBefore =
    (old new : System) (xs ys : List (List LevelSymbol)) (t : ℕ) (y : List LevelSymbol)
    (p : ℕ) (l : List ℕ) (m : ModuleValue)
    → AreMeantTo old new xs ys t → IsModuleAt ys t y p l m
    → is_candidate_at old new xs t y (module_question new t y p l m) ≡ false
    → IsAsBefore old new xs t y p l m

-- a question that the old system didn't ask at this level and lineage is a candidate
abbrev pub WhatWasNotAskedIsACandidate : Type 0
WhatWasNotAskedIsACandidate =
    (old new : System) (xs : List (List LevelSymbol)) (t : ℕ) (y : List LevelSymbol)
    (p : ℕ) (l : List ℕ) (m : ModuleValue)
    → question_at t l (questions old xs) ≡ None
    → is_candidate_at old new xs t y (module_question new t y p l m) ≡ true

-- the old system asks nothing on its last level, or after it
abbrev pub NothingIsAskedOnTheLastLevel : Type 0
NothingIsAskedOnTheLastLevel =
    (old : System) (xs : List (List LevelSymbol)) (t : ℕ) (l : List ℕ)
    → length xs ≤ t + 1 → question_at t l (questions old xs) ≡ None

-- the old system asks nothing where no symbol of the lineage stands on its level
abbrev pub NothingIsAskedWhereNoneStood : Type 0
NothingIsAskedWhereNoneStood =
    (old : System) (xs : List (List LevelSymbol)) (t : ℕ) (l : List ℕ)
    → place_of l (get_or xs t []) ≡ None → question_at t l (questions old xs) ≡ None

-- An old question is a candidate exactly where its symbol is disturbed, or one that its old answer
-- read, or where its module has other rules.
abbrev pub CandidatesAreDisturbedOrRuledOtherwise : Type 0
CandidatesAreDisturbedOrRuledOtherwise =
    (old new : System) (xs ys : List (List LevelSymbol)) (t : ℕ) (x y : List LevelSymbol)
    (p : ℕ) (l : List ℕ) (m : ModuleValue) (was : Question)
    → AreMeantTo old new xs ys t → slice_get xs t ≡ Some x → IsModuleAt ys t y p l m
    → question_at t l (questions old xs) ≡ Some was
    → is_candidate_at old new xs t y (module_question new t y p l m)
    ≡ is_disturbed x y l
    || (any_disturbed x y was.trace || not (has_same_rules old new t l m))

-- an answer read what is disturbed exactly where some lineage is disturbed that its entries name
abbrev pub AnswersAreDisturbedByWhatTheyName : Type 0
AnswersAreDisturbedByWhatTheyName =
    (x y : List LevelSymbol) (es : List Entry)
    → any_disturbed x y es ≡ any_holds (is_disturbed x y) (flat_map lineages_named es)

-- where the modules of a name have the same rules, the test of rules finds it
abbrev pub SameRulesAreFound : Type 0
SameRulesAreFound =
    (old new : System) (t : ℕ) (l : List ℕ) (m : ModuleValue)
    → AreSameRules old new t m.name (length m.params) → has_same_rules old new t l m ≡ true
