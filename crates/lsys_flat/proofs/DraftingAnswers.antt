-- New answers of one level more.
use Rattle.std.proofs.Common.{◌≡◌, ℕ, zero, suc, ◌<◌, ◌⊎◌, inl, inr, Option, Some, List, [], ◌∷◌, ◌++◌, length, get_or, set, refl, sym, ap, ◌∙◌, arith}
use Rattle.std.proofs.lemmas.List.{map-append}
use Rattle.lsys_walks.specs.Stores.{Store}
use Rattle.lsys_match.specs.Kept.{Kept}
use Rattle.lsys_match.specs.KeptAnswers.{HoldOwnRuns}
use Rattle.lsys_match.specs.Asks.{IsMade}
use Rattle.lsys_flat.specs.Slots.{slot_by_place}
use Rattle.lsys_flat.specs.Counted.{slots_in, all_slots_in}
use Rattle.lsys_flat.specs.Answers.{AreMadeWith, answer_on_level, at_level}
use Rattle.lsys_flat.specs.Rounds.{AreMadeAt, AreNew, StayMade}
use Rattle.lsys_flat.proofs.News.{all_stay, stay_then, told_still}
use Rattle.lsys_flat.specs.Drafts.{AreAllNew}

-- 1. lists of levels

pub set_level : {A : Type 0} (fresh : List (List A)) (f : List A) (t : ℕ) → length fresh ≡ t → set (fresh ++ [] ∷ []) t f ≡ fresh ++ f ∷ []
set_level [] f t e = ap (λ t. set ([] ∷ []) t f) (sym e)
set_level (x ∷ fresh) f zero e = absurd (omega (arith, e))
set_level (x ∷ fresh) f (suc t) e = ap (λ xs. x ∷ xs) (set_level fresh f t (omega (arith, e)))

-- an answer of the levels is one of those before, or one of the last
where_at : (fresh : List (List (Option Kept))) (f : List (Option Kept)) (t p : ℕ) (a : Kept) → answer_on_level (fresh ++ f ∷ []) t p ≡ Some a → ((t < length fresh) × (answer_on_level fresh t p ≡ Some a)) ⊎ ((t ≡ length fresh) × (slot_by_place f p ≡ Some a))
where_at [] f zero p a h = inr (refl, h)
where_at [] f (suc t) p a h = cc
where_at (x ∷ fresh) f zero p a h = inl (omega arith, h)
where_at (x ∷ fresh) f (suc t) p a h = by (where_at fresh f t p a h)
  where
    by : ((t < length fresh) × (answer_on_level fresh t p ≡ Some a)) ⊎ ((t ≡ length fresh) × (slot_by_place f p ≡ Some a)) → ((suc t < length (x ∷ fresh)) × (answer_on_level (x ∷ fresh) (suc t) p ≡ Some a)) ⊎ ((suc t ≡ length (x ∷ fresh)) × (slot_by_place f p ≡ Some a))
    by (inl g) = inl (omega (arith, g.0), g.1)
    by (inr g) = inr (ap suc g.0, g.1)

own_sym : (a b : Kept) → HoldOwnRuns a b → HoldOwnRuns b a
own_sym a b h = record { entries = λ n e f. h.entries n f e; values = λ n e f. h.values n f e }

-- 2. new answers

pub none_new : (s : Store) → AreAllNew s s []
none_new s = record {
  made = record { each = λ t p a e. cc };
  own = record { each = λ t p u q a b e f n. cc };
  beside = λ t p a b e m. cc;
  stay = all_stay s;
}

pub more_new : (begin mid after : Store) (fresh : List (List (Option Kept))) (f : List (Option Kept)) → AreAllNew begin mid fresh → AreNew mid after f → AreAllNew begin after (fresh ++ f ∷ [])
more_new begin mid after fresh f h g = record {
  made = record { each = λ t p a e. made t p a (where_at fresh f t p a e) };
  own = record { each = λ t p u q a b e k n. own t p u q a b (where_at fresh f t p a e) (where_at fresh f u q b k) n };
  beside = λ t p a b e m. beside t p a b (where_at fresh f t p a e) m;
  stay = stay_then begin mid after h.stay g.stay;
}
  where
    made : (t p : ℕ) (a : Kept) → ((t < length fresh) × (answer_on_level fresh t p ≡ Some a)) ⊎ ((t ≡ length fresh) × (slot_by_place f p ≡ Some a)) → IsMade after a
    made t p a (inl w) = (g.stay.each a (h.made.each t p a w.1)).made
    made t p a (inr w) = g.made.each p a w.1

    own : (t p u q : ℕ) (a b : Kept) → ((t < length fresh) × (answer_on_level fresh t p ≡ Some a)) ⊎ ((t ≡ length fresh) × (slot_by_place f p ≡ Some a)) → ((u < length fresh) × (answer_on_level fresh u q ≡ Some b)) ⊎ ((u ≡ length fresh) × (slot_by_place f q ≡ Some b))
        → (t ≡ u → p ≡ q → ⊥) → HoldOwnRuns a b
    own t p u q a b (inl v) (inl w) n = h.own.each t p u q a b v.1 w.1 n
    own t p u q a b (inl v) (inr w) n = own_sym b a (g.beside q b a w.1 (h.made.each t p a v.1))
    own t p u q a b (inr v) (inl w) n = g.beside p a b v.1 (h.made.each u q b w.1)
    own t p u q a b (inr v) (inr w) n = g.own p q a b v.1 w.1 (λ e. n (v.0 ∙ sym w.0) e)

    beside : (t p : ℕ) (a b : Kept) → ((t < length fresh) × (answer_on_level fresh t p ≡ Some a)) ⊎ ((t ≡ length fresh) × (slot_by_place f p ≡ Some a)) → IsMade begin b → HoldOwnRuns a b
    beside t p a b (inl w) m = h.beside t p a b w.1 m
    beside t p a b (inr w) m = g.beside p a b w.1 (h.stay.each b m).made

-- 3. what is told of them

pub slots_at : (s : Store) (kept : List (List (Option Kept))) (t : ℕ) → get_or (all_slots_in s kept) t [] ≡ slots_in s (at_level kept t)
slots_at s [] t = refl
slots_at s (x ∷ kept) zero = refl
slots_at s (x ∷ kept) (suc t) = slots_at s kept t

pub slots_still : (s t : Store) (kept : List (List (Option Kept))) → StayMade s t → AreMadeWith s kept → all_slots_in t kept ≡ all_slots_in s kept
slots_still s t [] h m = refl
slots_still s t (x ∷ kept) h m =
    let one = told_still s t x h (record { each = λ p a e. m.each zero p a e }) in
    let more = slots_still s t kept h (record { each = λ u p a e. m.each (suc u) p a e }) in
    λ i. one i ∷ more i

pub slots_more : (s : Store) (kept : List (List (Option Kept))) (f : List (Option Kept)) → all_slots_in s (kept ++ f ∷ []) ≡ all_slots_in s kept ++ slots_in s f ∷ []
slots_more s kept f = map-append (slots_in s) kept (f ∷ [])

pub level_made : (s : Store) (kept : List (List (Option Kept))) (t : ℕ) → AreMadeWith s kept → AreMadeAt s (at_level kept t)
level_made s kept t m = record { each = λ p a e. m.each t p a e }
