-- What is kept of a level once the old answers that are the same are taken over.
use Rattle.std.proofs.Common.{◌≡◌, ℕ, zero, suc, ◌+◌, ◌<◌, Option, Some, None, List, [], ◌∷◌, length, map, refl, sym, ap, ◌∙◌, subst, arith, get_or}
use Rattle.std.specs.Prelude.{slice_get, option_map}
use Rattle.std.specs.Option.{IsSomeAnd}
use Rattle.std.proofs.lemmas.Option.{slice_get-get_or, slice_get_within}
use Rattle.lsys_spec.specs.Systems.{System}
use Rattle.lsys_spec.specs.Levels.{LevelSymbol}
use Rattle.lsys_spec.specs.Questions.{Question}
use Rattle.lsys_walks.specs.Stores.{Store}
use Rattle.lsys_level.specs.Spots.{Spotted}
use Rattle.lsys_match.specs.Kept.{Kept}
use Rattle.lsys_match.specs.KeptAnswers.{StaysMade}
use Rattle.lsys_match.specs.Stored.{answer_in}
use Rattle.lsys_match.specs.TagQuestions.{TagAnswer}
use Rattle.lsys_flat.specs.Moves.{moved}
use Rattle.lsys_flat.proofs.TakenTags.{moved_length, moved_there, moved_not}
use Rattle.lsys_flat.specs.Answers.{at_level, answer_on_level, moved_from, AllStayMade}
use Rattle.lsys_laws.specs.KeptQuestions.{question_here}
use Rattle.lsys_flat.specs.Slots.{slot_by_place, slot_where_told, IsAnswerHere, IsSlot, AreSlots, IsFoundOut, AreFound, AreAllSlots, AreAllFound, filled_slots}
use Rattle.lsys_flat.specs.Counted.{slots_in, all_slots_in}

-- 1. one level

new_slot : (s : System) (t : ℕ) (row : List Spotted) (p : ℕ) (qn : Option Question) (mate : Option ℕ) (old f : Option TagAnswer) → IsFoundOut s t row p qn mate old f None → IsSlot s t row p qn f
new_slot s t row p None mate old None h = tt
new_slot s t row p None mate old (Some b) h = absurd h
new_slot s t row p (Some q) mate old None h = absurd h
new_slot s t row p (Some q) mate old (Some b) h = h.0

kept_slot : (s : System) (t : ℕ) (row : List Spotted) (p : ℕ) (q : Question) (o : Option TagAnswer) → IsSomeAnd o (IsAnswerHere s t row p) → IsSlot s t row p (Some q) o
kept_slot s t row p q None h = absurd h
kept_slot s t row p q (Some a) h = h

taken_slot : (s : System) (t : ℕ) (row : List Spotted) (p : ℕ) (olds : List (Option TagAnswer)) (qn : Option Question) (mate : Option ℕ) (f : Option TagAnswer) (j : ℕ) → IsFoundOut s t row p qn mate (slot_where_told olds mate) f (Some j) → IsSlot s t row p qn (slot_by_place olds j)
taken_slot s t row p olds None mate None j h = absurd h
taken_slot s t row p olds None mate (Some b) j h = absurd h
taken_slot s t row p olds (Some q) mate None j h = kept_slot s t row p q (slot_by_place olds j) (subst (λ m. IsSomeAnd (slot_where_told olds m) (IsAnswerHere s t row p)) h.0 h.1)
taken_slot s t row p olds (Some q) mate (Some b) j h = absurd h

pub moved_slots : (s : System) (t : ℕ) (row : List Spotted) (y : List LevelSymbol) (olds : List (Option TagAnswer)) (mates : List (Option ℕ)) (fresh : List (Option TagAnswer)) (taken : List (Option ℕ)) → AreFound s t row y olds mates fresh taken
    → AreSlots s t row y (moved olds fresh taken)
moved_slots s t row y olds mates fresh taken h = record { each = moved_length olds fresh taken ∙ h.each_fresh; kept = λ p a g. by p a g (slot_by_place taken p) refl }
  where
    by : (p : ℕ) (a : LevelSymbol) → slice_get y p ≡ Some a → (k : Option ℕ) → slot_by_place taken p ≡ k → IsSlot s t row p (question_here s t y p a) (slot_by_place (moved olds fresh taken) p)
    by p a g None e =
        let within : p < length taken = let l : p < length y = slice_get_within y p a g in omega (arith, l, h.each_taken) in
        let there : slice_get taken p ≡ Some None = slice_get-get_or taken p None within ∙ ap (λ k. Some k) e in
        subst (IsSlot s t row p (question_here s t y p a)) (sym (moved_not olds fresh taken p there))
        (new_slot s t row p (question_here s t y p a) (slot_by_place mates p) (slot_where_told olds (slot_by_place mates p)) (slot_by_place fresh p)
        (subst (IsFoundOut s t row p (question_here s t y p a) (slot_by_place mates p) (slot_where_told olds (slot_by_place mates p)) (slot_by_place fresh p)) e (h.found p a g)))
    by p a g (Some j) e =
        let within : p < length taken = let l : p < length y = slice_get_within y p a g in omega (arith, l, h.each_taken) in
        let there : slice_get taken p ≡ Some (Some j) = slice_get-get_or taken p None within ∙ ap (λ k. Some k) e in
        subst (IsSlot s t row p (question_here s t y p a)) (sym (moved_there olds fresh taken p j (h.each_fresh ∙ sym h.each_taken) there))
        (taken_slot s t row p olds (question_here s t y p a) (slot_by_place mates p) (slot_by_place fresh p) j
        (subst (IsFoundOut s t row p (question_here s t y p a) (slot_by_place mates p) (slot_where_told olds (slot_by_place mates p)) (slot_by_place fresh p)) e (h.found p a g)))

-- 2. all levels

pub all_slots : (s : System) (rows : List (List Spotted)) (xs : List (List LevelSymbol)) (olds : List (List (Option TagAnswer))) (t : ℕ) (ys : List (List LevelSymbol)) (fresh : List (List (Option TagAnswer))) (taken : List (List (Option ℕ)))
    → AreAllFound s t rows xs olds ys fresh taken → AreAllSlots s t rows ys (moved_from t olds fresh taken)
all_slots s rows xs olds t [] fresh taken h = ap (λ f. moved_from t olds f taken) h.0
all_slots s rows xs olds t (y ∷ []) fresh taken h = ap (λ f. moved_from t olds f taken) h.0
all_slots s rows xs olds t (y ∷ z ∷ ys) [] taken h = absurd h
all_slots s rows xs olds t (y ∷ z ∷ ys) (f ∷ fresh) [] h = absurd h
all_slots s rows xs olds t (y ∷ z ∷ ys) (f ∷ fresh) (k ∷ taken) h = (moved_slots s t (get_or rows t []) y (get_or olds t []) _ f k h.0, all_slots s rows xs olds (t + 1) (z ∷ ys) fresh taken h.1)

-- 3. as answers are kept

module _ {A B : Type 0} (g : A → B) where
  pub slot_map : (olds : List (Option A)) (j : ℕ) → option_map g (get_or olds j None) ≡ get_or (map (option_map g) olds) j None
  slot_map [] j = refl
  slot_map (o ∷ olds) zero = refl
  slot_map (o ∷ olds) (suc j) = slot_map olds j

  moved_map : (olds fresh : List (Option A)) (ks : List (Option ℕ)) → map (option_map g) (moved olds fresh ks) ≡ moved (map (option_map g) olds) (map (option_map g) fresh) ks
  moved_map olds [] ks = refl
  moved_map olds (f ∷ fresh) [] = refl
  moved_map olds (f ∷ fresh) (None ∷ ks) = ap (λ r. option_map g f ∷ r) (moved_map olds fresh ks)
  moved_map olds (f ∷ fresh) (Some j ∷ ks) = ap (λ o. o ∷ map (option_map g) (moved olds fresh ks)) (slot_map olds j) ∙ ap (λ r. get_or (map (option_map g) olds) j None ∷ r) (moved_map olds fresh ks)

  pub level_map : (olds : List (List (Option A))) (t : ℕ) → map (option_map g) (at_level olds t) ≡ at_level (map (map (option_map g)) olds) t
  level_map [] t = refl
  level_map (o ∷ olds) zero = refl
  level_map (o ∷ olds) (suc t) = level_map olds t

  pub all_moved_map : (t : ℕ) (olds fresh : List (List (Option A))) (taken : List (List (Option ℕ))) → map (map (option_map g)) (moved_from t olds fresh taken) ≡ moved_from t (map (map (option_map g)) olds) (map (map (option_map g)) fresh) taken
  all_moved_map t olds [] taken = refl
  all_moved_map t olds (f ∷ fresh) [] = refl
  all_moved_map t olds (f ∷ fresh) (k ∷ taken) =
      ap (λ l. l ∷ map (map (option_map g)) (moved_from (t + 1) olds fresh taken)) (moved_map (at_level olds t) f k ∙ ap (λ o. moved o (map (option_map g) f) k) (level_map olds t))
      ∙ ap (λ r. moved (at_level (map (map (option_map g)) olds) t) (map (option_map g) f) k ∷ r) (all_moved_map (t + 1) olds fresh taken)

  pub filled_map : (slots : List (Option A)) → filled_slots (map (option_map g) slots) ≡ filled_slots slots
  filled_map [] = refl
  filled_map (None ∷ slots) = filled_map slots
  filled_map (Some a ∷ slots) = ap (λ n. n + 1) (filled_map slots)

slots_stay : (before after : Store) (slots : List (Option Kept)) → ((p : ℕ) (a : Kept) → get_or slots p None ≡ Some a → StaysMade before after a) → slots_in after slots ≡ slots_in before slots
slots_stay before after [] f = refl
slots_stay before after (None ∷ slots) f = ap (λ r. None ∷ r) (slots_stay before after slots (λ p a e. f (suc p) a e))
slots_stay before after (Some a ∷ slots) f =
    ap (λ b. Some b ∷ slots_in after slots) (f 0 a refl).answer ∙ ap (λ r. Some (answer_in before a) ∷ r) (slots_stay before after slots (λ p a e. f (suc p) a e))

all_stay : (before after : Store) (kept : List (List (Option Kept))) → ((t p : ℕ) (a : Kept) → answer_on_level kept t p ≡ Some a → StaysMade before after a) → all_slots_in after kept ≡ all_slots_in before kept
all_stay before after [] f = refl
all_stay before after (slots ∷ kept) f =
    ap (λ l. l ∷ all_slots_in after kept) (slots_stay before after slots (λ p a e. f 0 p a e)) ∙ ap (λ r. slots_in before slots ∷ r) (all_stay before after kept (λ t p a e. f (suc t) p a e))

pub told_stay : (before after : Store) (kept : List (List (Option Kept))) → AllStayMade before after kept → all_slots_in after kept ≡ all_slots_in before kept
told_stay before after kept h = all_stay before after kept h.each
