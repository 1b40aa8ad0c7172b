-- What is found out can be taken over.
use Rattle.std.proofs.Common.{◌≡◌, ℕ, zero, suc, ◌+◌, ◌<◌, Option, Some, None, List, [], ◌∷◌, length, map, refl, sym, ap, ◌∙◌, subst, arith, get_or}
use Rattle.std.specs.Prelude.{slice_get, option_map}
use Rattle.std.specs.Option.{IsSomeAnd}
use Rattle.std.proofs.lemmas.List.{length-map}
use Rattle.std.proofs.lemmas.Option.{slice_get_within, get_or_from_slice_get, slice_get-get_or}
use Rattle.lsys_spec.specs.Systems.{System, Each}
use Rattle.lsys_spec.specs.Levels.{LevelSymbol}
use Rattle.lsys_spec.specs.Cuts.{Distinct}
use Rattle.lsys_spec.specs.Questions.{Question}
use Rattle.lsys_laws.specs.KeptQuestions.{places_in, question_here}
use Rattle.lsys_walks.specs.Stores.{Store}
use Rattle.lsys_level.specs.Spots.{Spotted}
use Rattle.lsys_match.specs.Kept.{Kept}
use Rattle.lsys_match.specs.Stored.{answer_in}
use Rattle.lsys_match.specs.TagQuestions.{TagAnswer}
use Rattle.lsys_flat.proofs.Apart.{mates_apart}
use Rattle.lsys_flat.specs.Answers.{at_level, CanMove}
use Rattle.lsys_flat.specs.Slots.{slot_by_place, slot_where_told, IsAnswerHere, IsFoundOut, AreFound, AreAllFound}
use Rattle.lsys_flat.specs.Counted.{slots_in, all_slots_in}
use Rattle.lsys_flat.proofs.CountedLevels.{within_get}
use Rattle.lsys_flat.proofs.Slots.{slot_map, level_map}

-- 1. one level

-- it is taken from the mate's place, where there is an answer, and nothing is new
pub record IsTaken (s : System) (t : ℕ) (row : List Spotted) (p : ℕ) (mate : Option ℕ) (old f : Option TagAnswer) (j : ℕ) : Type 0 where
  pub from_mate : mate ≡ Some j
  pub answer : IsSomeAnd old (IsAnswerHere s t row p)
  pub free : f ≡ None

is_taken : (s : System) (t : ℕ) (row : List Spotted) (p : ℕ) (qn : Option Question) (mate : Option ℕ) (old f : Option TagAnswer) (k : Option ℕ) (j : ℕ) → k ≡ Some j → IsFoundOut s t row p qn mate old f k → IsTaken s t row p mate old f j
is_taken s t row p None mate old None None j e h = let no : None ≡ Some j = e in cc
is_taken s t row p None mate old None (Some i) j e h = absurd h
is_taken s t row p None mate old (Some b) k j e h = absurd h
is_taken s t row p (Some q) mate old None None j e h = absurd h
is_taken s t row p (Some q) mate old None (Some i) j e h = record { from_mate = h.0 ∙ e; answer = h.1; free = refl }
is_taken s t row p (Some q) mate old (Some b) None j e h = let no : None ≡ Some j = e in cc
is_taken s t row p (Some q) mate old (Some b) (Some i) j e h = absurd h

slot_within : {A : Type 0} (P : A → Type 0) (slots : List (Option A)) (j : ℕ) → IsSomeAnd (slot_by_place slots j) P → j < length slots
slot_within P [] j h = absurd h
slot_within P (s ∷ slots) zero h = omega arith
slot_within P (s ∷ slots) (suc j) h = let r : j < length slots = slot_within P slots j h in omega (arith, r)

none_before : {A B : Type 0} (g : A → B) (o : Option A) → option_map g o ≡ None → o ≡ None
none_before g None e = refl
none_before g (Some a) e = let no : Some (g a) ≡ None = e in cc

module _ (s : System) (t : ℕ) (store : Store) (row : List Spotted) (x y : List LevelSymbol) (olds fresh : List (Option Kept)) (taken : List (Option ℕ)) (distinct : Distinct y) (h : AreFound s t row y (slots_in store olds) (places_in x y) (slots_in store fresh) taken) where
  taken_here : (p j : ℕ) → slice_get taken p ≡ Some (Some j) → IsTaken s t row p (slot_by_place (places_in x y) p) (slot_where_told (slots_in store olds) (slot_by_place (places_in x y) p)) (slot_by_place (slots_in store fresh) p) j
  taken_here p j e =
      let l : p < length taken = slice_get_within taken p (Some j) e in
      let a = within_get y p (omega (arith, l, h.each_taken)) in
      is_taken s t row p (question_here s t y p a.0) (slot_by_place (places_in x y) p) (slot_where_told (slots_in store olds) (slot_by_place (places_in x y) p)) (slot_by_place (slots_in store fresh) p) (slot_by_place taken p) j
      (get_or_from_slice_get taken p (Some j) None e) (h.found p a.0 a.1)

  pub can_move : CanMove olds fresh taken
  can_move = record {
    apart = mates_apart x y taken distinct of_mates;
    below = λ p j e.
        let k = taken_here p j e in
        let there : IsSomeAnd (slot_by_place (slots_in store olds) j) (IsAnswerHere s t row p) = subst (λ m. IsSomeAnd (slot_where_told (slots_in store olds) m) (IsAnswerHere s t row p)) k.from_mate k.answer in
        let l : j < length (slots_in store olds) = slot_within (IsAnswerHere s t row p) (slots_in store olds) j there in
        omega (arith, l, length-map olds (option_map (answer_in store)));
    each = sym (length-map fresh (option_map (answer_in store))) ∙ h.each_fresh ∙ sym h.each_taken;
    free = λ p j e. none_before (answer_in store) (get_or fresh p None) (slot_map (answer_in store) fresh p ∙ (taken_here p j e).free);
  }
    where
      of_mates : (p j : ℕ) → slice_get taken p ≡ Some (Some j) → slice_get (places_in x y) p ≡ Some (Some j)
      of_mates p j e =
          let l : p < length taken = slice_get_within taken p (Some j) e in
          let n : length (places_in x y) ≡ length y = length-map y _ in
          slice_get-get_or (places_in x y) p None (omega (arith, l, h.each_taken, n)) ∙ ap (λ m. Some m) (taken_here p j e).from_mate

-- 2. all levels

same_lengths : (s : System) (t : ℕ) (rows : List (List Spotted)) (xs : List (List LevelSymbol)) (olds : List (List (Option TagAnswer))) (ys : List (List LevelSymbol)) (fresh : List (List (Option TagAnswer))) (taken : List (List (Option ℕ)))
    → AreAllFound s t rows xs olds ys fresh taken → length fresh ≡ length taken
same_lengths s t rows xs olds [] fresh taken h = ap length h.0 ∙ sym (ap length h.1)
same_lengths s t rows xs olds (y ∷ []) fresh taken h = ap length h.0 ∙ sym (ap length h.1)
same_lengths s t rows xs olds (y ∷ z ∷ ys) [] taken h = absurd h
same_lengths s t rows xs olds (y ∷ z ∷ ys) (f ∷ fresh) [] h = absurd h
same_lengths s t rows xs olds (y ∷ z ∷ ys) (f ∷ fresh) (k ∷ taken) h = ap suc (same_lengths s (t + 1) rows xs olds (z ∷ ys) fresh taken h.1)

pub levels_alike : (s : System) (store : Store) (rows : List (List Spotted)) (xs ys : List (List LevelSymbol)) (olds fresh : List (List (Option Kept))) (taken : List (List (Option ℕ)))
    → AreAllFound s 0 rows xs (all_slots_in store olds) ys (all_slots_in store fresh) taken → length fresh ≡ length taken
levels_alike s store rows xs ys olds fresh taken h = sym (length-map fresh (slots_in store)) ∙ same_lengths s 0 rows xs (all_slots_in store olds) ys (all_slots_in store fresh) taken h

-- nothing is taken over to a level of which nothing was found out
nothing_moves : (olds : List (Option Kept)) → CanMove olds [] []
nothing_moves olds = record {
  apart = λ p q j e f. let no : None ≡ Some (Some j) = e in cc;
  below = λ p j e. let no : None ≡ Some (Some j) = e in cc;
  each = refl;
  free = λ p j e. let no : None ≡ Some (Some j) = e in cc;
}

no_slots : {A B : Type 0} (g : A → B) (slots : List A) → map g slots ≡ [] → slots ≡ []
no_slots g [] e = refl
no_slots g (a ∷ slots) e = let no : g a ∷ map g slots ≡ [] = e in cc

no_level : (store : Store) (fresh : List (List (Option Kept))) (i : ℕ) → all_slots_in store fresh ≡ [] → at_level fresh i ≡ []
no_level store fresh i e = ap (λ (f : List (List (Option Kept))). at_level f i) (no_slots (slots_in store) fresh e)

still : (olds fresh : List (Option Kept)) (taken : List (Option ℕ)) → fresh ≡ [] → taken ≡ [] → CanMove olds fresh taken
still olds fresh taken e f = subst (λ fresh. CanMove olds fresh taken) (sym e) (subst (λ (taken : List (Option ℕ)). CanMove olds [] taken) (sym f) (nothing_moves olds))

module _ (s : System) (store : Store) (rows : List (List Spotted)) (xs : List (List LevelSymbol)) (olds : List (List (Option Kept))) where
  moves_from : (t : ℕ) (ys : List (List LevelSymbol)) (fresh : List (List (Option Kept))) (taken : List (List (Option ℕ))) → Each Distinct ys → AreAllFound s t rows xs (all_slots_in store olds) ys (all_slots_in store fresh) taken → (i n : ℕ) → t + i ≡ n
      → CanMove (at_level olds n) (at_level fresh i) (at_level taken i)
  moves_from t [] fresh taken r h i n e = still (at_level olds n) (at_level fresh i) (at_level taken i) (no_level store fresh i h.0) (ap (λ (k : List (List (Option ℕ))). at_level k i) h.1)
  moves_from t (y ∷ []) fresh taken r h i n e = still (at_level olds n) (at_level fresh i) (at_level taken i) (no_level store fresh i h.0) (ap (λ (k : List (List (Option ℕ))). at_level k i) h.1)
  moves_from t (y ∷ z ∷ ys) [] taken r h i n e = absurd h
  moves_from t (y ∷ z ∷ ys) (f ∷ fresh) [] r h i n e = absurd h
  moves_from t (y ∷ z ∷ ys) (f ∷ fresh) (k ∷ taken) r h zero n e =
      let here : t ≡ n = omega (arith, e) in
      subst (λ n. CanMove (at_level olds n) f k) here
      (can_move s t store (get_or rows t []) (get_or xs t []) y (at_level olds t) f k r.0
      (subst (λ o. AreFound s t (get_or rows t []) y o (places_in (get_or xs t []) y) (slots_in store f) k) (sym (level_map (answer_in store) olds t)) h.0))
  moves_from t (y ∷ z ∷ ys) (f ∷ fresh) (k ∷ taken) r h (suc i) n e = moves_from (t + 1) (z ∷ ys) fresh taken r.1 h.1 i n (omega (arith, e))

  pub all_can_move : (ys : List (List LevelSymbol)) (fresh : List (List (Option Kept))) (taken : List (List (Option ℕ))) → Each Distinct ys → AreAllFound s 0 rows xs (all_slots_in store olds) ys (all_slots_in store fresh) taken → (t : ℕ)
      → CanMove (at_level olds t) (at_level fresh t) (at_level taken t)
  all_can_move ys fresh taken r h t = moves_from 0 ys fresh taken r h t t (omega arith)
