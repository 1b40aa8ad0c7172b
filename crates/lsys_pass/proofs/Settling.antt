-- Who read what, when a pass is closed.
use Rattle.std.proofs.Common.{◌≡◌, ◌⊎◌, inl, inr, ℕ, Bool, true, false, ◌&&◌, ◌||◌, ◌==◌, cond, List, [], ◌∷◌, refl, ap, sym, ◌∙◌, arith}
use Rattle.std.specs.Prelude.{not, sum_by, nat_lt, IsPermutation}
use Rattle.std.proofs.lemmas.Bool.{cases_Bool, eqb-true}
use Rattle.std.proofs.lemmas.List.Sums.{sum_by-cons}
use Rattle.std.proofs.lemmas.List.Sorted.{sum_by-IsPermutation}
use Rattle.lsys_spec.specs.Rows.{In}
use Rattle.lsys_reads.proofs.RowLemmas.{either}
use Rattle.lsys_reads.specs.Rows.{has}
use Rattle.lsys_reads.specs.Relations.{Relations, is_settled, is_pending, pairs_have}
use Rattle.lsys_pass.specs.Read.{SettlesReads}

-- 1. a list in another order

has_sum : (xs : List ℕ) (k : ℕ) → has xs k ≡ nat_lt 0 (sum_by (λ x. cond (x == k) 1 0) xs)
has_sum [] k = refl
has_sum (x ∷ xs) k =
    ap (λ b. (x == k) || b) (has_sum xs k) ∙ sym (either (x == k) (sum_by (λ y. cond (y == k) 1 0) xs)) ∙ ap (nat_lt 0) (sym (sum_by-cons (λ y. cond (y == k) 1 0) x xs))

pub has_in_order : (xs ys : List ℕ) (k : ℕ) → IsPermutation xs ys → has ys k ≡ has xs k
has_in_order xs ys k p = has_sum ys k ∙ ap (nat_lt 0) (sum_by-IsPermutation (λ x. cond (x == k) 1 0) xs ys p) ∙ sym (has_sum xs k)

pub settled_both : (old mid new : Relations) (rn ds : List ℕ) → ((reader seen : ℕ) → is_settled mid reader seen ≡ (not (has ds reader) && is_settled old reader seen)) → mid.pending ≡ old.pending
    → ((reader seen : ℕ) → is_settled new reader seen ≡ ((not (has rn reader) && is_settled mid reader seen) || is_pending mid reader seen)) → SettlesReads old new rn ds
settled_both old mid new rn ds forgets quiet settles reader seen =
    settles reader seen ∙ ap (λ b. (not (has rn reader) && b) || is_pending mid reader seen) (forgets reader seen)
    ∙ ap (λ ps. (not (has rn reader) && (not (has ds reader) && is_settled old reader seen)) || pairs_have ps reader seen) quiet

pub settled_in_order : (old new : Relations) (rn ds rn' ds' : List ℕ) → SettlesReads old new rn' ds' → ((k : ℕ) → has rn' k ≡ has rn k) → ((k : ℕ) → has ds' k ≡ has ds k) → SettlesReads old new rn ds
settled_in_order old new rn ds rn' ds' settled e f reader seen =
    settled reader seen ∙ (λ i. (not (e reader i) && (not (f reader i) && is_settled old reader seen)) || is_pending old reader seen)

-- 2. who is among them

in_first : (x k : ℕ) (xs : List ℕ) (b : Bool) → (x == k) ≡ b → (has xs k ≡ true → In k xs) → (b || has xs k) ≡ true → In k (x ∷ xs)
in_first x k xs true e f g = inl (sym (eqb-true x k e))
in_first x k xs false e f g = inr (f g)

pub has_in : (xs : List ℕ) (k : ℕ) → has xs k ≡ true → In k xs
has_in [] k h = cc
has_in (x ∷ xs) k h = in_first x k xs (x == k) refl (has_in xs k) h

or_true : (a : Bool) → a || true ≡ true
or_true true = refl
or_true false = refl

eqb_refl : (a : ℕ) → (a == a) ≡ true
eqb_refl a = grind (arith)

pub in_has : (xs : List ℕ) (k : ℕ) → In k xs → has xs k ≡ true
in_has [] k h = absurd h
in_has (x ∷ xs) k (inl e) = ap (λ j. (x == j) || has xs k) e ∙ ap (λ b. b || has xs k) (eqb_refl x)
in_has (x ∷ xs) k (inr h) = ap (λ b. (x == k) || b) (in_has xs k h) ∙ or_true (x == k)

pub In_cases : (xs : List ℕ) (k : ℕ) → In k xs ⊎ (In k xs → ⊥)
In_cases xs k = elim (cases_Bool (has xs k)) [
  | inl e ↦ inl (has_in xs k e)
  | inr e ↦ inr (λ i. (let f : true ≡ false = sym (in_has xs k i) ∙ e in cc))
]
