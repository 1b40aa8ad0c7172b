-- Nodes that are added to a list, if they are of a kind.
use Rattle.std.proofs.Common.{◌≡◌, ◌+◌, ◌≤◌, ℕ, zero, suc, take, List, [], ◌∷◌, ◌++◌, length, Some, refl, sym, ap, ◌∙◌, subst, inl, inr, arith, append_assoc}
use Rattle.std.specs.Prelude.{slice_get}
use Rattle.std.proofs.lemmas.List.{append-nil}
use Rattle.std.proofs.lemmas.Option.{none-some, same_Some}
use Rattle.lsys_spec.specs.Rows.{In, AreApart}
use Rattle.lsys_forest.proofs.RowLemmas.{In_append, In_left, In_right, apart_append}
use Rattle.lsys_front.specs.Questioned.{AddsOf}

take_step : (us : List ℕ) (i x : ℕ) → slice_get us i ≡ Some x → take (suc i) us ≡ take i us ++ x ∷ []
take_step [] i x h = absurd (none-some x h)
take_step (y ∷ us) zero x h = ap (λ x. x ∷ []) (same_Some y x h)
take_step (y ∷ us) (suc i) x h = ap (λ (l : List ℕ). y ∷ l) (take_step us i x h)

pub take_all : (us : List ℕ) (i : ℕ) → length us ≤ i → take i us ≡ us
take_all [] zero h = refl
take_all [] (suc i) h = refl
take_all (y ∷ us) zero h = absurd (omega (arith, h))
take_all (y ∷ us) (suc i) h = ap (λ (l : List ℕ). y ∷ l) (take_all us i (omega (arith, h)))

pub apart_front : (xs ys : List ℕ) → AreApart (xs ++ ys) → AreApart xs
apart_front [] ys h = tt
apart_front (x ∷ xs) ys h = (λ i. h.0 (In_left x xs ys i), apart_front xs ys h.1)

pub apart_between : (xs ys : List ℕ) → AreApart (xs ++ ys) → (k : ℕ) → In k xs → In k ys → ⊥
apart_between [] ys h k i j = i
apart_between (x ∷ xs) ys h k (inl e) j = h.0 (In_right x xs ys (subst (λ k. In k ys) e j))
apart_between (x ∷ xs) ys h k (inr i) j = apart_between xs ys h.1 k i j

pub adds_none : (kind : ℕ → Type 0) (node : ℕ) (xs : List ℕ) → (kind node → ⊥) → AddsOf kind (node ∷ []) xs xs
adds_none kind node xs n = record {
  added = [];
  is = sym (append-nil xs);
  are = λ k. (λ h. absurd h, λ h. n (elim h.0 [ inl e ↦ subst kind e h.1 | inr i ↦ absurd i ]));
  once = λ a. tt;
}

pub adds_start : (kind : ℕ → Type 0) (us xs : List ℕ) → AddsOf kind (take 0 us) xs xs
adds_start kind us xs = record {
  added = [];
  is = sym (append-nil xs);
  are = λ k. (λ h. absurd h, λ h. none us k h.0);
  once = λ a. tt;
}
  where
    none : (us : List ℕ) (k : ℕ) → In k (take 0 us) → ⊥
    none [] k h = h
    none (y ∷ us) k h = h

pub adds_next : (kind : ℕ → Type 0) (us : List ℕ) (i x : ℕ) (xs ys zs : List ℕ) → slice_get us i ≡ Some x → AddsOf kind (take i us) xs ys → AddsOf kind (x ∷ []) ys zs → AddsOf kind (take (i + 1) us) xs zs
adds_next kind us i x xs ys zs here a b =
    let n : i + 1 ≡ suc i = omega arith in
    subst (λ us. AddsOf kind us xs zs) (sym (take_step us i x here) ∙ ap (λ n. take n us) (sym n)) (record {
      added = a.added ++ b.added;
      is = b.is ∙ ap (λ l. l ++ b.added) a.is ∙ append_assoc xs a.added b.added;
      are = λ k. (
        λ h. elim (In_append a.added b.added k h) [
          | inl j ↦ (let r = (a.are k).0 j in (In_left k (take i us) (x ∷ []) r.0, r.1))
          | inr j ↦ (let r = (b.are k).0 j in (In_right k (take i us) (x ∷ []) r.0, r.1))
        ],
        λ h. elim (In_append (take i us) (x ∷ []) k h.0) [
          | inl j ↦ In_left k a.added b.added ((a.are k).1 (j, h.1))
          | inr j ↦ In_right k a.added b.added ((b.are k).1 (j, h.1))
        ],
      );
      once = λ apart. apart_append a.added b.added (a.once (apart_front (take i us) (x ∷ []) apart)) (b.once (λ h. h, tt)) (λ k j l. apart_between (take i us) (x ∷ []) apart k ((a.are k).0 j).0 ((b.are k).0 l).0);
    })

pub adds_all : (kind : ℕ → Type 0) (us : List ℕ) (i : ℕ) (xs ys : List ℕ) → length us ≤ i → AddsOf kind (take i us) xs ys → AddsOf kind us xs ys
adds_all kind us i xs ys h a = subst (λ us. AddsOf kind us xs ys) (take_all us i h) a
