-- Marks of tags that are in use.
use Rattle.std.proofs.Common.{◌≡◌, ℕ, zero, suc, ◌+◌, ◌≤◌, Bool, true, false, ◌==◌, ◌||◌, cond, List, [], ◌∷◌, ◌++◌, set, refl, ap, ◌∙◌, arith, eq-eqb, length-append}
use Rattle.std.proofs.lemmas.List.Sums.{sum_by-cons, sum_by_push}
use Rattle.lsys_flat.specs.Supplies.{Supply, in_use, tags_used, MarksTag, MarksAll, KeepsMarks}
use Rattle.lsys_spec.specs.Systems.{Each}
use Rattle.lsys_spec.proofs.Tests.{or_later}

marked_cons : (b : Bool) (used : List Bool) → tags_used (b ∷ used) ≡ cond b 1 0 + tags_used used
marked_cons b used = sum_by-cons (λ b. cond b 1 0) b used

one_mark : (used : List Bool) (n : ℕ) → tags_used (set used n true) ≤ tags_used used + 1
one_mark [] n = omega arith
one_mark (b ∷ used) zero = omega (arith, marked_cons b used, marked_cons true used)
one_mark (b ∷ used) (suc n) = omega (arith, marked_cons b used, marked_cons b (set used n true), one_mark used n)

-- room for marks, in which no tag is in use
pub record HasMoreRoom (old new : Supply) : Type 0 where
  pub marks : KeepsMarks old new
  pub same : tags_used new.used ≡ tags_used old.used

none_after : (used : List Bool) (k : ℕ) → in_use (used ++ false ∷ []) k ≡ in_use used k
none_after [] zero = refl
none_after [] (suc k) = refl
none_after (b ∷ used) zero = refl
none_after (b ∷ used) (suc k) = none_after used k

pub one_more : (old : Supply) (used : List Bool) (next : ℕ) → HasMoreRoom old (record { used = used; next = next }) → HasMoreRoom old (record { used = used ++ false ∷ []; next = next })
one_more old used next h = record {
  marks = record { used = λ k. none_after used k ∙ h.marks.used k; next = h.marks.next };
  same = sum_by_push (λ b. cond b 1 0) used false ∙ omega (arith, h.same);
}

-- tags one after another

each_then : (P : ℕ → Type 0) (ks ms : List ℕ) → Each P ks → Each P ms → Each P (ks ++ ms)
each_then P [] ms h g = g
each_then P (k ∷ ks) ms h g = (h.0, each_then P ks ms h.1 g)

each_more : (P Q : ℕ → Type 0) (ks : List ℕ) → ((k : ℕ) → P k → Q k) → Each P ks → Each Q ks
each_more P Q [] f h = tt
each_more P Q (k ∷ ks) f h = (f k h.0, each_more P Q ks f h.1)

pub none_marked : (s : Supply) → MarksAll [] s s
none_marked s = record { used = tt; stay = λ k h. h; few = omega arith; next = refl }

one_marked : (s t : Supply) (tag : ℕ) → MarksTag tag s t → MarksAll (tag ∷ []) s t
one_marked s t tag h = record {
  used = (h.used tag ∙ ap (λ b. b || in_use s.used tag) (eq-eqb tag tag refl), tt);
  stay = λ k g. h.used k ∙ or_later (k == tag) (in_use s.used k) g;
  few = omega (arith, h.few);
  next = h.next;
}

pub then_all : (s t u : Supply) (ks ms : List ℕ) → MarksAll ks s t → MarksAll ms t u → MarksAll (ks ++ ms) s u
then_all s t u ks ms h g = record {
  used = each_then (λ k. in_use u.used k ≡ true) ks ms (each_more (λ k. in_use t.used k ≡ true) (λ k. in_use u.used k ≡ true) ks g.stay h.used) g.used;
  stay = λ k i. g.stay k (h.stay k i);
  few = omega (arith, h.few, g.few, length-append ks ms);
  next = g.next ∙ h.next;
}

pub one_more_marked : (s t u : Supply) (ks : List ℕ) (tag : ℕ) → MarksAll ks s t → MarksTag tag t u → MarksAll (ks ++ tag ∷ []) s u
one_more_marked s t u ks tag h g = then_all s t u ks (tag ∷ []) h (one_marked t u tag g)
