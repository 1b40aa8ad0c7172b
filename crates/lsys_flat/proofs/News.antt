-- New answers, one after another.
use Rattle.std.proofs.Common.{◌≡◌, ℕ, zero, suc, ◌+◌, ◌≤◌, ◌⊎◌, inl, inr, ◌<◌, Option, Some, None, List, [], ◌∷◌, ◌++◌, length, refl, sym, ap, ◌∙◌, subst, arith, set}
use Rattle.std.specs.Prelude.{option_map}
use Rattle.lsys_walks.specs.Stores.{Store}
use Rattle.lsys_match.specs.Kept.{Kept}
use Rattle.lsys_match.specs.KeptAnswers.{HoldOwnRuns}
use Rattle.lsys_match.specs.Stored.{answer_in}
use Rattle.lsys_match.specs.Asks.{IsMade, IsNew, StaysAsKept}
use Rattle.lsys_match.proofs.Staying.{own_runs, stays_kept, stays_new}
use Rattle.lsys_flat.specs.Slots.{slot_by_place, slot_where_told, filled_slots}
use Rattle.lsys_flat.specs.Rounds.{AreMadeAt, StayMade, AreNew, answers_told}

-- 1. stores, one after another

pub all_stay : (s : Store) → StayMade s s
all_stay s = record { each = λ a m. record { made = m; answer = refl } }

pub stay_then : (s t u : Store) → StayMade s t → StayMade t u → StayMade s u
stay_then s t u h g = record {
  each = λ a m.
      let one = h.each a m in
      let two = g.each a one.made in
      record { made = two.made; answer = two.answer ∙ one.answer };
}

pub stay_kept : (s t : Store) → StaysAsKept s t → StayMade s t
stay_kept s t h = record { each = λ a m. stays_kept s t a h m }

pub stay_new : (s t : Store) (old : Option Kept) (b : Kept) → IsNew s t old b → StayMade s t
stay_new s t old b h = record { each = λ a m. stays_new s t old a b h m }

pub made_still : (s t : Store) (slots : List (Option Kept)) → StayMade s t → AreMadeAt s slots → AreMadeAt t slots
made_still s t slots h g = record { each = λ p a e. (h.each a (g.each p a e)).made }

-- what is told of answers stays
pub told_still : (s t : Store) (slots : List (Option Kept)) → StayMade s t → AreMadeAt s slots → answers_told t slots ≡ answers_told s slots
told_still s t [] h g = refl
told_still s t (None ∷ slots) h g = ap (λ xs. None ∷ xs) (told_still s t slots h (record { each = λ p a e. g.each (suc p) a e }))
told_still s t (Some a ∷ slots) h g =
    let one = (h.each a (g.each 0 a refl)).answer in
    let more = told_still s t slots h (record { each = λ p a e. g.each (suc p) a e }) in
    λ i. Some (one i) ∷ more i

-- 2. at a place

pub slot_told : (s : Store) (slots : List (Option Kept)) (p : ℕ) → slot_by_place (answers_told s slots) p ≡ option_map (answer_in s) (slot_by_place slots p)
slot_told s [] p = refl
slot_told s (o ∷ slots) zero = refl
slot_told s (o ∷ slots) (suc p) = slot_told s slots p

pub old_told : (s : Store) (slots : List (Option Kept)) (o : Option ℕ) → slot_where_told (answers_told s slots) o ≡ option_map (answer_in s) (slot_where_told slots o)
old_told s slots None = refl
old_told s slots (Some j) = slot_told s slots j

pub slot_before : {A : Type 0} (slots : List (Option A)) (o : Option A) (q : ℕ) → q < length slots → slot_by_place (slots ++ o ∷ []) q ≡ slot_by_place slots q
slot_before [] o q h = absurd (omega (arith, h))
slot_before (a ∷ slots) o zero h = refl
slot_before (a ∷ slots) o (suc q) h = slot_before slots o q (omega (arith, h))

pub slot_last : {A : Type 0} (slots : List (Option A)) (o : Option A) → slot_by_place (slots ++ o ∷ []) (length slots) ≡ o
slot_last [] o = refl
slot_last (a ∷ slots) o = slot_last slots o

pub set_last : {A : Type 0} (slots : List (Option A)) (o : Option A) (p : ℕ) → length slots ≡ p → set (slots ++ None ∷ []) p o ≡ slots ++ o ∷ []
set_last [] o p h = ap (λ p. set (None ∷ []) p o) (sym h)
set_last (a ∷ slots) o zero h = absurd (omega (arith, h))
set_last (a ∷ slots) o (suc p) h = ap (λ xs. a ∷ xs) (set_last slots o p (omega (arith, h)))

pub filled_more : {A : Type 0} (slots : List (Option A)) (o : Option A) → filled_slots (slots ++ o ∷ []) ≡ filled_slots slots + filled_slots (o ∷ [])
filled_more [] o = omega arith
filled_more (None ∷ slots) o = filled_more slots o
filled_more (Some a ∷ slots) o = let more = filled_more slots o in omega (arith, more)

pub filled_most : {A : Type 0} (slots : List (Option A)) → filled_slots slots ≤ length slots
filled_most [] = omega arith
filled_most (None ∷ slots) = let more = filled_most slots in omega (arith, more)
filled_most (Some a ∷ slots) = let more = filled_most slots in omega (arith, more)

-- 3. one more answer, or none

where_is : {A : Type 0} (slots : List (Option A)) (o : Option A) (q : ℕ) (a : A) → slot_by_place (slots ++ o ∷ []) q ≡ Some a → ((q < length slots) × (slot_by_place slots q ≡ Some a)) ⊎ ((q ≡ length slots) × (o ≡ Some a))
where_is [] o zero a h = inr (refl, h)
where_is [] o (suc q) a h = cc
where_is (b ∷ slots) o zero a h = inl (omega arith, h)
where_is (b ∷ slots) o (suc q) a h = by (where_is slots o q a h)
  where
    by : ((q < length slots) × (slot_by_place slots q ≡ Some a)) ⊎ ((q ≡ length slots) × (o ≡ Some a)) → ((suc q < length (b ∷ slots)) × (slot_by_place (b ∷ slots) (suc q) ≡ Some a)) ⊎ ((suc q ≡ length (b ∷ slots)) × (o ≡ Some a))
    by (inl g) = inl (omega (arith, g.0), g.1)
    by (inr g) = inr (ap suc g.0, g.1)

pub none_new : (begin s t : Store) (fresh : List (Option Kept)) → StayMade s t → AreNew begin s fresh → AreNew begin t fresh
none_new begin s t fresh h g = record {
  made = made_still s t fresh h g.made;
  own = g.own;
  beside = g.beside;
  stay = stay_then begin s t g.stay h;
}

pub none_more : (begin s : Store) (fresh : List (Option Kept)) → AreNew begin s fresh → AreNew begin s (fresh ++ None ∷ [])
none_more begin s fresh g = record {
  made = record { each = λ p a e. g.made.each p a (there p a e) };
  own = λ p q a b e f n. g.own p q a b (there p a e) (there q b f) n;
  beside = λ p a b e m. g.beside p a b (there p a e) m;
  stay = g.stay;
}
  where
    there : (p : ℕ) (a : Kept) → slot_by_place (fresh ++ None ∷ []) p ≡ Some a → slot_by_place fresh p ≡ Some a
    there p a e = by (where_is fresh None p a e)
      where
        by : ((p < length fresh) × (slot_by_place fresh p ≡ Some a)) ⊎ ((p ≡ length fresh) × (None ≡ Some a)) → slot_by_place fresh p ≡ Some a
        by (inl h) = h.1
        by (inr h) = let no = h.1 in cc

own_sym : (a b : Kept) → HoldOwnRuns a b → HoldOwnRuns b a
own_sym a b h = record { entries = λ n e f. h.entries n f e; values = λ n e f. h.values n f e }

pub one_new : (begin s t : Store) (fresh : List (Option Kept)) (old : Option Kept) (b : Kept) → IsNew s t old b → AreNew begin s fresh → AreNew begin t (fresh ++ Some b ∷ [])
one_new begin s t fresh old b h g = record {
  made = record { each = λ p a e. made p a (where_is fresh (Some b) p a e) };
  own = λ p q a c e f n. own p q a c (where_is fresh (Some b) p a e) (where_is fresh (Some b) q c f) n;
  beside = λ p a c e m. beside p a c (where_is fresh (Some b) p a e) m;
  stay = stay_then begin s t g.stay (stay_new s t old b h);
}
  where
    made : (p : ℕ) (a : Kept) → (((p < length fresh) × (slot_by_place fresh p ≡ Some a)) ⊎ ((p ≡ length fresh) × (Some b ≡ Some a))) → IsMade t a
    made p a (inl w) = (stays_new s t old a b h (g.made.each p a w.1)).made
    made p a (inr w) = let same : b ≡ a = let e = w.1 in cc in subst (IsMade t) same h.made

    own : (p q : ℕ) (a c : Kept) → (((p < length fresh) × (slot_by_place fresh p ≡ Some a)) ⊎ ((p ≡ length fresh) × (Some b ≡ Some a))) → (((q < length fresh) × (slot_by_place fresh q ≡ Some c)) ⊎ ((q ≡ length fresh) × (Some b ≡ Some c))) → (p ≡ q → ⊥) → HoldOwnRuns a c
    own p q a c (inl v) (inl w) n = g.own p q a c v.1 w.1 n
    own p q a c (inl v) (inr w) n = let same : b ≡ c = let e = w.1 in cc in subst (HoldOwnRuns a) same (own_sym b a (own_runs s t old a b h (g.made.each p a v.1)))
    own p q a c (inr v) (inl w) n = let same : b ≡ a = let e = v.1 in cc in subst (λ a. HoldOwnRuns a c) same (own_runs s t old c b h (g.made.each q c w.1))
    own p q a c (inr v) (inr w) n = absurd (n (v.0 ∙ sym w.0))

    beside : (p : ℕ) (a c : Kept) → (((p < length fresh) × (slot_by_place fresh p ≡ Some a)) ⊎ ((p ≡ length fresh) × (Some b ≡ Some a))) → IsMade begin c → HoldOwnRuns a c
    beside p a c (inl w) m = g.beside p a c w.1 m
    beside p a c (inr w) m = let same : b ≡ a = let e = w.1 in cc in subst (λ a. HoldOwnRuns a c) same (own_runs s t old c b h (g.stay.each c m).made)
