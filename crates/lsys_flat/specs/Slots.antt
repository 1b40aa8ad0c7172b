-- What is kept of the questions of a level, and what is found out about those of a new one, place by place.
use Rattle.std.specs.Prelude.{◌≡◌, ◌+◌, ℕ, Option, Some, None, List, [], ◌∷◌, length, slice_get, slice_index_or}
use Rattle.std.specs.Option.{IsSomeAnd}
use Rattle.lsys_spec.specs.Systems.{System}
use Rattle.lsys_spec.specs.Levels.{LevelSymbol, ModuleValue}
use Rattle.lsys_spec.specs.Questions.{Question}
use Rattle.lsys_laws.specs.KeptQuestions.{places_in, question_here}
use Rattle.lsys_level.specs.Spots.{Spotted}
use Rattle.lsys_match.specs.TagQuestions.{TagAnswer}
use Rattle.lsys_match.specs.Recalled.{IsAnswerThere}

-- 1. what is kept

-- what is at a place, where there is something
abbrev pub slot_by_place : {A : Type 0} → List (Option A) → ℕ → Option A
slot_by_place slots p = slice_index_or slots p None

-- what is at the place that is told, where one is
abbrev pub slot_where_told : {A : Type 0} → List (Option A) → Option ℕ → Option A
slot_where_told slots None = None
slot_where_told slots (Some j) = slot_by_place slots j

-- the answer to the question of the module at place p of what is seen of level t
pub record IsAnswerHere (s : System) (t : ℕ) (row : List Spotted) (p : ℕ) (a : TagAnswer) : Type 0 where
  pub tag : ℕ
  pub own : ModuleValue
  pub there : IsAnswerThere s t row p tag own a

-- an answer is kept where there is a question, and none else
abbrev pub IsSlot : System → ℕ → List Spotted → ℕ → Option Question → Option TagAnswer → Type 0
IsSlot s t row p None None = Unit {0}
IsSlot s t row p None (Some a) = ⊥
IsSlot s t row p (Some q) None = ⊥
IsSlot s t row p (Some q) (Some a) = IsAnswerHere s t row p a

-- the level x, which is level t of the system, of which this is seen, has these answers
pub record AreSlots (s : System) (t : ℕ) (row : List Spotted) (x : List LevelSymbol) (slots : List (Option TagAnswer)) : Type 0 where
  pub each : length slots ≡ length x
  pub kept : (p : ℕ) (a : LevelSymbol) → slice_get x p ≡ Some a → IsSlot s t row p (question_here s t x p a) (slot_by_place slots p)

-- 2. what is found out

-- Of a question it is found out that it is the old answer's, whose place is taken; or there is a new answer, and the question is another one than the old answer's.
abbrev pub IsFoundOut : System → ℕ → List Spotted → ℕ → Option Question → Option ℕ → Option TagAnswer → Option TagAnswer → Option ℕ → Type 0
IsFoundOut s t row p None mate old None None = Unit {0}
IsFoundOut s t row p None mate old (Some b) taken = ⊥
IsFoundOut s t row p None mate old None (Some j) = ⊥
IsFoundOut s t row p (Some q) mate old None None = ⊥
IsFoundOut s t row p (Some q) mate old None (Some j) = (mate ≡ Some j) × IsSomeAnd old (IsAnswerHere s t row p)
IsFoundOut s t row p (Some q) mate old (Some b) None = IsAnswerHere s t row p b × ((o : TagAnswer) → old ≡ Some o → o.question ≡ b.question → ⊥)
IsFoundOut s t row p (Some q) mate old (Some b) (Some j) = ⊥

-- So it is for the symbols of the level y, which is level t of the system, of which this is seen: with the old level's answers, the place of each symbol's mate there, the new answers, and the places from which old ones are taken over.
pub record AreFound (s : System) (t : ℕ) (row : List Spotted) (y : List LevelSymbol) (olds : List (Option TagAnswer)) (mates : List (Option ℕ)) (fresh : List (Option TagAnswer)) (taken : List (Option ℕ)) : Type 0 where
  pub each_fresh : length fresh ≡ length y
  pub each_taken : length taken ≡ length y
  pub found : (p : ℕ) (a : LevelSymbol) → slice_get y p ≡ Some a →
      IsFoundOut s t row p (question_here s t y p a) (slot_by_place mates p) (slot_where_told olds (slot_by_place mates p)) (slot_by_place fresh p) (slot_by_place taken p)

-- how many there are
abbrev pub filled_slots : {A : Type 0} → List (Option A) → ℕ
filled_slots [] = 0
filled_slots (None ∷ slots) = filled_slots slots
filled_slots (Some a ∷ slots) = filled_slots slots + 1

-- 3. level by level

-- the answers that are kept of the levels below the last, the first of these being level t
abbrev pub AreAllSlots : System → ℕ → List (List Spotted) → List (List LevelSymbol) → List (List (Option TagAnswer)) → Type 0
AreAllSlots s t rows [] kept = kept ≡ []
AreAllSlots s t rows (x ∷ []) kept = kept ≡ []
AreAllSlots s t rows (x ∷ y ∷ levels) [] = ⊥
AreAllSlots s t rows (x ∷ y ∷ levels) (slots ∷ kept) = AreSlots s t (slice_index_or rows t []) x slots × AreAllSlots s (t + 1) rows (y ∷ levels) kept

-- What is found out about the levels, the first of which is level t, beside old levels xs with what is kept of them: all but the last are asked about.
abbrev pub AreAllFound : System → ℕ → List (List Spotted) → List (List LevelSymbol) → List (List (Option TagAnswer)) → List (List LevelSymbol) → List (List (Option TagAnswer)) → List (List (Option ℕ)) → Type 0
AreAllFound s t rows xs olds [] fresh taken = (fresh ≡ []) × (taken ≡ [])
AreAllFound s t rows xs olds (y ∷ []) fresh taken = (fresh ≡ []) × (taken ≡ [])
AreAllFound s t rows xs olds (y ∷ z ∷ ys) [] taken = ⊥
AreAllFound s t rows xs olds (y ∷ z ∷ ys) (f ∷ fresh) [] = ⊥
AreAllFound s t rows xs olds (y ∷ z ∷ ys) (f ∷ fresh) (k ∷ taken) =
    AreFound s t (slice_index_or rows t []) y (slice_index_or olds t []) (places_in (slice_index_or xs t []) y) f k × AreAllFound s (t + 1) rows xs olds (z ∷ ys) fresh taken
