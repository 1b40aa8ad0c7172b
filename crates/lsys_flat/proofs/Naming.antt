-- The tags of a level, one after another.
use Rattle.std.proofs.Common.{◌≡◌, ℕ, zero, suc, ◌+◌, ◌≤◌, Bool, false, Option, Some, None, List, [], ◌∷◌, ◌++◌, length, drop, refl, sym, ap, subst, arith, append_assoc, append-nil, add-one}
use Rattle.std.specs.Prelude.{slice_get}
use Rattle.lsys_flat.specs.Supplies.{in_use, AreNamed}

pub drop_there : {A : Type 0} (xs : List A) (i : ℕ) (x : A) → slice_get xs i ≡ Some x → drop i xs ≡ x ∷ drop (i + 1) xs
drop_there xs i x e = rw add-one (go xs i x e)
  where
    go : {A : Type 0} (xs : List A) (i : ℕ) (x : A) → slice_get xs i ≡ Some x → drop i xs ≡ x ∷ drop (suc i) xs
    go [] i x e = cc
    go (y ∷ xs) zero x e = let h : y ≡ x = cc in ap (λ y. y ∷ xs) h
    go (y ∷ xs) (suc i) x e = go xs i x e

-- what names the rest completes the whole
pub record Completes (old : List ℕ) (marks : List Bool) (ms : List (Option ℕ)) (first : ℕ) (i from : ℕ) (front : List ℕ) : Type 0 where
  pub whole : (ks : List ℕ) (to : ℕ) → AreNamed old marks (drop i ms) from ks to → AreNamed old marks ms first (front ++ ks) to

pub one_old : (old : List ℕ) (marks : List Bool) (ms : List (Option ℕ)) (first i from j k : ℕ) (front : List ℕ) → Completes old marks ms first i from front → slice_get ms i ≡ Some (Some j) → slice_get old j ≡ Some k
    → Completes old marks ms first (i + 1) from (front ++ k ∷ [])
one_old old marks ms first i from j k front h g e = record {
  whole = λ ks to n. rw (append_assoc front (k ∷ []) ks) (h.whole (k ∷ ks) to (rw (drop_there ms i (Some j) g) (e, n)));
}

pub one_new : (old : List ℕ) (marks : List Bool) (ms : List (Option ℕ)) (first i from k : ℕ) (front : List ℕ) → Completes old marks ms first i from front → slice_get ms i ≡ Some None → from ≤ k → in_use marks k ≡ false
    → Completes old marks ms first (i + 1) (k + 1) (front ++ k ∷ [])
one_new old marks ms first i from k front h g l e = record {
  whole = λ ks to n. rw (append_assoc front (k ∷ []) ks) (h.whole (k ∷ ks) to (rw (drop_there ms i None g) (l, e, n)));
}

pub ended : (old : List ℕ) (marks : List Bool) (ms : List (Option ℕ)) (first i from : ℕ) (front : List ℕ) → Completes old marks ms first i from front → length ms ≤ i → AreNamed old marks ms first front from
ended old marks ms first i from front h l = subst (λ ks. AreNamed old marks ms first ks from) (append-nil front) (h.whole [] from (subst (λ (ms : List (Option ℕ)). AreNamed old marks ms from [] from) (sym (past ms i l)) refl))
  where
    past : (ms : List (Option ℕ)) (i : ℕ) → length ms ≤ i → drop i ms ≡ []
    past [] zero l = refl
    past [] (suc i) l = refl
    past (m ∷ ms) zero l = absurd (omega (arith, l))
    past (m ∷ ms) (suc i) l = past ms i (omega (arith, l))
