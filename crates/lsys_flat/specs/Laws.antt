-- What the laws of levels in vectors say.
use Rattle.std.specs.Prelude.{◌≡◌, ◌≤◌, ◌<◌, ◌+◌, ◌*◌, ◌++◌, ℕ, ℤ, Bool, true, Option, Some, Ok, Err, List, [], ◌∷◌, length, sum_by, slice_get, slice_index_or}
use Rattle.lsys_syntax.specs.Limits.{most_successor_symbols}
use Rattle.lsys_syntax.specs.Strings as S
use Rattle.lsys_spec.specs.Systems.{System, WellFormed, Each}
use Rattle.lsys_spec.specs.Levels.{LevelSymbol, Module, ModuleValue, lineage}
use Rattle.lsys_spec.specs.Choice.{Fault}
use Rattle.lsys_spec.specs.Cuts.{Raw, Distinct, cut}
use Rattle.lsys_spec.specs.Meaning.{LevelRefusal, OverLimit, FaultAt, children, first_level, last_level, meaning, meaning_to, most_entries, next_level, replacement}
use Rattle.lsys_spec.specs.Questions.{questions, questions_at, need}
use Rattle.lsys_laws.specs.KeptQuestions.{places_in}
use Rattle.lsys_level.specs.Spots.{Spotted, spots_at, level_by}
use Rattle.lsys_level.specs.Tags.{HasOwnTags}
use Rattle.lsys_walks.specs.Stores.{Store}
use Rattle.lsys_match.specs.Kept.{Kept}
use Rattle.lsys_match.specs.TagQuestions.{TagAnswer}
use Rattle.lsys_flat.specs.Moves.{moved, AreOfMates, AreTakenOnce}
use Rattle.lsys_flat.specs.Lines.{Descent}
use Rattle.lsys_flat.specs.Steps.{modules_up_to, ReplacedTo}
use Rattle.lsys_flat.specs.Supplies.{in_use}
use Rattle.lsys_flat.specs.Tagged.{all_tagged, AgreeAll, AllNamed, HaveTags}
use Rattle.lsys_flat.specs.Revised.{Revised, AreNamedTogether, AreOldLevels, IsKeyed, IsRevised, all_spots, tags_of}
use Rattle.lsys_flat.specs.Answers.{all_moved, AllStayMade, CanAllMove}
use Rattle.lsys_flat.specs.Slots.{AreAllFound, AreAllSlots, AreFound, AreSlots, filled_slots}
use Rattle.lsys_flat.specs.Counted.{AreCompared, AreFoundAt, AreKeyed, slots_in, all_slots_in}

-- 1. derivation steps, symbol by symbol

-- the next symbol is replaced by its children
abbrev pub StepsGoOnByChildren : Type 0
StepsGoOnByChildren =
    (s : System) (t : ℕ) (x : List LevelSymbol) (p n : ℕ) (raw : List Raw) (a : LevelSymbol) (ys : List (S.Symbol ℤ)) → ReplacedTo s t x p n raw → slice_get x p ≡ Some a → replacement s t x p a ≡ Ok ys
    → ReplacedTo s t x (p + 1) (modules_up_to a n) (raw ++ children s.numbering (lineage a) ys)

-- the first fault is that of the level, with the number of its module
abbrev pub StepsEndAtTheFirstFault : Type 0
StepsEndAtTheFirstFault =
    (s : System) (t : ℕ) (x : List LevelSymbol) (p n : ℕ) (raw : List Raw) (a : LevelSymbol) (k : Fault) → ReplacedTo s t x p n raw → slice_get x p ≡ Some a → replacement s t x p a ≡ Err k
    → next_level s t x ≡ Err (FaultAt k t (n + 1))

-- where all are replaced, the cut leaves the next level
abbrev pub StepsEndWithTheCut : Type 0
StepsEndWithTheCut = (s : System) (t : ℕ) (x : List LevelSymbol) (n : ℕ) (raw : List Raw) → ReplacedTo s t x (length x) n raw → next_level s t x ≡ Ok (cut raw)

-- 2. derivations, level by level

abbrev pub DerivationsBeginWithTheFirstLevel : Type 0
DerivationsBeginWithTheFirstLevel = (s : System) (limit : ℕ) → length (first_level s) ≤ limit → meaning_to s limit 0 ≡ Ok (first_level s ∷ [])

abbrev pub FirstLevelsOverTheLimitAreRefused : Type 0
FirstLevelsOverTheLimitAreRefused = (s : System) (limit : ℕ) → limit < length (first_level s) → meaning s limit ≡ Err (OverLimit 0)

abbrev pub DerivationsGoOnWithinTheLimit : Type 0
DerivationsGoOnWithinTheLimit =
    (s : System) (limit t : ℕ) (xs : List (List LevelSymbol)) (x : List LevelSymbol) → meaning_to s limit t ≡ Ok xs → next_level s t (last_level xs) ≡ Ok x → sum_by length xs + length x ≤ limit
    → meaning_to s limit (t + 1) ≡ Ok (xs ++ x ∷ [])

abbrev pub NextLevelsOverTheLimitAreRefused : Type 0
NextLevelsOverTheLimitAreRefused =
    (s : System) (limit t : ℕ) (xs : List (List LevelSymbol)) (x : List LevelSymbol) → meaning_to s limit t ≡ Ok xs → next_level s t (last_level xs) ≡ Ok x → limit < sum_by length xs + length x → t < s.depth
    → meaning s limit ≡ Err (OverLimit (t + 1))

abbrev pub DerivationsEndAtTheFirstRefusal : Type 0
DerivationsEndAtTheFirstRefusal =
    (s : System) (limit t : ℕ) (xs : List (List LevelSymbol)) (e : LevelRefusal) → meaning_to s limit t ≡ Ok xs → next_level s t (last_level xs) ≡ Err e → t < s.depth → meaning s limit ≡ Err e

abbrev pub ReplacementsAreShort : Type 0
ReplacementsAreShort =
    (s : System) → WellFormed s → (t : ℕ) (x : List LevelSymbol) (p : ℕ) (a : LevelSymbol) (ys : List (S.Symbol ℤ)) → replacement s t x p a ≡ Ok ys → length ys ≤ most_successor_symbols

-- 3. tags and mates

-- between old symbols and new ones tags are equal exactly where level and lineage are
abbrev pub GivenTagsAgreeWithOldOnes : Type 0
GivenTagsAgreeWithOldOnes =
    (xs ys : List (List LevelSymbol)) (olds news : List (List ℕ)) (used : List Bool) (next : ℕ) → Each Distinct xs → Each Distinct ys → Each (λ a. in_use used a.tag ≡ true) (all_tagged 0 xs olds)
    → AgreeAll (all_tagged 0 xs olds) (all_tagged 0 xs olds) → AllNamed xs olds used 0 next ys news → AgreeAll (all_tagged 0 xs olds) (all_tagged 0 ys news)

-- and among new ones
abbrev pub GivenTagsAgree : Type 0
GivenTagsAgree =
    (xs ys : List (List LevelSymbol)) (olds news : List (List ℕ)) (used : List Bool) (next : ℕ) → Each Distinct xs → Each Distinct ys → Each (λ a. in_use used a.tag ≡ true) (all_tagged 0 xs olds)
    → AgreeAll (all_tagged 0 xs olds) (all_tagged 0 xs olds) → AllNamed xs olds used 0 next ys news → AgreeAll (all_tagged 0 ys news) (all_tagged 0 ys news)

abbrev pub TagsThatAgreeStandOnce : Type 0
TagsThatAgreeStandOnce =
    (ys : List (List LevelSymbol)) (tags : List (List ℕ)) (spots : List (List Spotted)) → Each Distinct ys → AgreeAll (all_tagged 0 ys tags) (all_tagged 0 ys tags) → HaveTags ys tags spots → HasOwnTags spots

abbrev pub MatesAreTakenOnce : Type 0
MatesAreTakenOnce = (x y : List LevelSymbol) (places : List (Option ℕ)) → Distinct y → AreOfMates (places_in x y) places → AreTakenOnce places

-- 4. revisions

-- the new levels are such as the old ones were
abbrev pub RevisionsGiveOldLevels : Type 0
RevisionsGiveOldLevels = (seed : ℕ) (xs ys : List (List LevelSymbol)) (r : Revised) → IsRevised seed xs ys r → AreOldLevels ys r.lines

abbrev pub RevisionsKeepTags : Type 0
RevisionsKeepTags =
    (seed : ℕ) (xs ys : List (List LevelSymbol)) (r : Revised) → IsRevised seed xs ys r → AgreeAll (all_tagged 0 xs (tags_of r.old_lines)) (all_tagged 0 ys (tags_of r.lines))

abbrev pub RevisionsAreNamedTogether : Type 0
RevisionsAreNamedTogether =
    (before seed : ℕ) (xs ys : List (List LevelSymbol)) (r : Revised) → IsRevised seed xs ys r → AreNamedTogether xs ys (all_spots before xs (tags_of r.old_lines)) r.view

abbrev pub RevisionsAreKeyed : Type 0
RevisionsAreKeyed =
    (seed : ℕ) (xs ys : List (List LevelSymbol)) (r : Revised) → IsRevised seed xs ys r
    → (naming : ℕ → List ℕ) (t p : ℕ) (l : List ℕ) (m : ModuleValue) → level_by naming (spots_at r.view t) ≡ slice_index_or ys t [] → slice_get (slice_index_or ys t []) p ≡ Some (Module l m)
    → IsKeyed naming seed (spots_at r.view t) p l m

abbrev pub OldLevelsAreKeyed : Type 0
OldLevelsAreKeyed = (seed : ℕ) (xs : List (List LevelSymbol)) (lines : List Descent) → AreOldLevels xs lines → AreKeyed seed xs (all_spots seed xs (tags_of lines))

-- 5. counts

abbrev pub NewAnswersAreTheNeed : Type 0
NewAnswersAreTheNeed =
    (old new : System) (xs ys : List (List LevelSymbol)) (oldrows rows : List (List Spotted)) (kept fresh : List (List (Option TagAnswer))) (taken : List (List (Option ℕ)))
    → AreCompared old new xs ys oldrows rows kept fresh taken → need (questions old xs) (questions new ys) ≡ sum_by filled_slots fresh

abbrev pub NewAndTakenAnswersAreAllQuestions : Type 0
NewAndTakenAnswersAreAllQuestions =
    (old new : System) (xs ys : List (List LevelSymbol)) (oldrows rows : List (List Spotted)) (kept fresh : List (List (Option TagAnswer))) (taken : List (List (Option ℕ)))
    → AreCompared old new xs ys oldrows rows kept fresh taken → length (questions new ys) ≡ sum_by filled_slots fresh + sum_by filled_slots taken

-- what was found out of a level is what is kept of it, once the old answers that are the same are taken over
abbrev pub WhatIsFoundIsKept : Type 0
WhatIsFoundIsKept =
    (s : System) (t : ℕ) (row : List Spotted) (y : List LevelSymbol) (olds : List (Option TagAnswer)) (mates : List (Option ℕ)) (fresh : List (Option TagAnswer)) (taken : List (Option ℕ))
    → AreFound s t row y olds mates fresh taken → AreSlots s t row y (moved olds fresh taken)

-- so it is of all levels
abbrev pub AllThatIsFoundIsKept : Type 0
AllThatIsFoundIsKept =
    (s : System) (rows : List (List Spotted)) (xs ys : List (List LevelSymbol)) (olds fresh : List (List (Option TagAnswer))) (taken : List (List (Option ℕ)))
    → AreAllFound s 0 rows xs olds ys fresh taken → AreAllSlots s 0 rows ys (all_moved olds fresh taken)

-- whether answers are told by tags or as they are kept
abbrev pub AnswersMoveAsTheyAreTold : Type 0
AnswersMoveAsTheyAreTold =
    (s : Store) (olds fresh : List (List (Option Kept))) (taken : List (List (Option ℕ))) → all_slots_in s (all_moved olds fresh taken) ≡ all_moved (all_slots_in s olds) (all_slots_in s fresh) taken

abbrev pub AnswersThatStayAreToldAlike : Type 0
AnswersThatStayAreToldAlike = (before after : Store) (kept : List (List (Option Kept))) → AllStayMade before after kept → all_slots_in after kept ≡ all_slots_in before kept

abbrev pub AsManyAreToldAsKept : Type 0
AsManyAreToldAsKept = (s : Store) (slots : List (Option Kept)) → filled_slots (slots_in s slots) ≡ filled_slots slots

abbrev pub LevelsReadNoMoreThanTheirLength : Type 0
LevelsReadNoMoreThanTheirLength = (s : System) (t : ℕ) (x : List LevelSymbol) → sum_by (λ q. length q.trace) (questions_at s t x) ≤ (most_entries + 1) * length x

-- with one level more those of the last one before it are asked too
abbrev pub QuestionsGrowByALevel : Type 0
QuestionsGrowByALevel =
    (s : System) (xs : List (List LevelSymbol)) (y : List LevelSymbol) (t : ℕ) → length xs ≡ t + 1 → questions s (xs ++ y ∷ []) ≡ questions s xs ++ questions_at s t (slice_index_or xs t [])

abbrev pub NothingIsFoundOfLevelZeroAlone : Type 0
NothingIsFoundOfLevelZeroAlone =
    (s : System) (rows : List (List Spotted)) (xs : List (List LevelSymbol)) (y : List LevelSymbol) (olds : List (List (Option TagAnswer))) → AreAllFound s 0 rows xs olds (y ∷ []) [] []

-- once the next level is there, what was found of the last one counts
abbrev pub WhatIsFoundGrowsByALevel : Type 0
WhatIsFoundGrowsByALevel =
    (s : System) (rows seen : List (List Spotted)) (xs ys : List (List LevelSymbol)) (z : List LevelSymbol) (olds fresh : List (List (Option TagAnswer))) (taken : List (List (Option ℕ)))
    (f : List (Option TagAnswer)) (k : List (Option ℕ)) (t : ℕ) → length ys ≡ t + 1 → ((u : ℕ) → u ≤ t → spots_at seen u ≡ spots_at rows u) → AreAllFound s 0 rows xs olds ys fresh taken
    → AreFoundAt s rows xs ys olds f k t → AreAllFound s 0 seen xs olds (ys ++ z ∷ []) (fresh ++ f ∷ []) (taken ++ k ∷ [])

abbrev pub NewAndTakenAnswersHaveTheSameLevels : Type 0
NewAndTakenAnswersHaveTheSameLevels =
    (s : System) (store : Store) (rows : List (List Spotted)) (xs ys : List (List LevelSymbol)) (olds fresh : List (List (Option Kept))) (taken : List (List (Option ℕ)))
    → AreAllFound s 0 rows xs (all_slots_in store olds) ys (all_slots_in store fresh) taken → length fresh ≡ length taken

abbrev pub WhatIsFoundCanMove : Type 0
WhatIsFoundCanMove =
    (s : System) (store : Store) (rows : List (List Spotted)) (xs ys : List (List LevelSymbol)) (olds fresh : List (List (Option Kept))) (taken : List (List (Option ℕ))) → Each Distinct ys
    → AreAllFound s 0 rows xs (all_slots_in store olds) ys (all_slots_in store fresh) taken → CanAllMove olds fresh taken
