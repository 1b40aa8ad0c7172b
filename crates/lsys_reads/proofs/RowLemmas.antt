-- Rising lists of tags, as sets.
use Rattle.std.proofs.Common.{◌≡◌, ◌≢◌, ℕ, zero, suc, ◌<◌, ◌≤◌, List, [], ◌∷◌, ◌++◌, length, get_or, Bool, true, false, not, ◌||◌, ◌&&◌, ◌==◌, refl, sym, ap, subst, ◌∙◌, inl, inr, arith, zero-le, ◌+◌, ◌-◌, nat_cmp, Result, Ok, Err, rules, Equal}
use Rattle.std.specs.Prelude.{sum_by, nat_lt, IsPermutation, cond, IfOk, is_ok}
use Rattle.std.specs.List.{insert, remove, HoldsAt}
use Rattle.std.specs.List.Sorted.{IsSearchInRange}
use Rattle.std.proofs.lemmas.Cmp.{ranked}
use Rattle.std.proofs.lemmas.List.Sorted.{sum_by-IsPermutation}
use Rattle.std.proofs.lemmas.List.Sums.{sum_by-cons}
use Rattle.std.proofs.lemmas.Bool.Decides.{eqb_tells}
use Rattle.std.proofs.lemmas.Bool.{eq-eqb, ne_eqb, cases_lt}
use Rattle.lsys_reads.specs.Rows.{IsBelowAll, IsRising, has, Sweeps}

or_swap : (a b c : Bool) → (a || (b || c)) ≡ (b || (a || c))
or_swap true true c = refl
or_swap true false c = refl
or_swap false true c = refl
or_swap false false c = refl

pub or_true : (a : Bool) → (a || true) ≡ true
or_true true = refl
or_true false = refl

-- a tag that is below all of a list is not in it
pub below_lacks : (xs : List ℕ) (x : ℕ) → IsBelowAll x xs → has xs x ≡ false
below_lacks [] x below = refl
below_lacks (y ∷ xs) x below =
    ap (λ (b : Bool). b || has xs x) (ne_eqb y x (λ same. let lt : x < y = below.0 in omega (arith, same))) ∙ below_lacks xs x below.1

pub below_all_get : (xs : List ℕ) (x k : ℕ) → IsBelowAll x xs → k < length xs → x < get_or xs k 0
below_all_get [] x k below within = absurd (omega (arith, within))
below_all_get (y ∷ xs) x zero below within = below.0
below_all_get (y ∷ xs) x (suc k) below within = below_all_get xs x k below.1 (omega (arith, within))

pub below_all_from : (xs : List ℕ) (x : ℕ) → ((k : ℕ) → k < length xs → x < get_or xs k 0) → IsBelowAll x xs
below_all_from [] x each = tt
below_all_from (y ∷ xs) x each = (each zero (omega arith), below_all_from xs x (λ k within. each (suc k) (omega (arith, within))))

below_all_insert : (xs : List ℕ) (i x y : ℕ) → y < x → IsBelowAll y xs → IsBelowAll y (insert xs i x)
below_all_insert xs zero x y less below = (less, below)
below_all_insert [] (suc i) x y less below = (less, tt)
below_all_insert (z ∷ xs) (suc i) x y less below = (below.0, below_all_insert xs i x y less below.1)

pub rising_insert : (xs : List ℕ) (i x : ℕ) → IsRising xs → ((k : ℕ) → k < i → k < length xs → get_or xs k 0 < x) → ((k : ℕ) → i ≤ k → k < length xs → x < get_or xs k 0) → IsRising (insert xs i x)
rising_insert xs zero x rising low high = (below_all_from xs x (λ k within. high k zero-le within), rising)
rising_insert [] (suc i) x rising low high = (tt, tt)
rising_insert (y ∷ xs) (suc i) x rising low high = (
  below_all_insert xs i x y (low zero (omega arith) (omega arith)) rising.0,
  rising_insert xs i x rising.1 (λ k less within. low (suc k) (omega (arith, less)) (omega (arith, within))) (λ k most within. high (suc k) (omega (arith, most)) (omega (arith, within))),
)

pub has_insert : (xs : List ℕ) (i x q : ℕ) → has (insert xs i x) q ≡ ((x == q) || has xs q)
has_insert xs zero x q = refl
has_insert [] (suc i) x q = refl
has_insert (y ∷ xs) (suc i) x q = ap (λ (b : Bool). (y == q) || b) (has_insert xs i x q) ∙ or_swap (y == q) (x == q) (has xs q)

below_all_remove : (xs : List ℕ) (i y : ℕ) → IsBelowAll y xs → IsBelowAll y (remove xs i)
below_all_remove [] zero y below = tt
below_all_remove [] (suc i) y below = tt
below_all_remove (z ∷ xs) zero y below = below.1
below_all_remove (z ∷ xs) (suc i) y below = (below.0, below_all_remove xs i y below.1)

pub rising_remove : (xs : List ℕ) (i : ℕ) → IsRising xs → IsRising (remove xs i)
rising_remove [] zero rising = tt
rising_remove [] (suc i) rising = tt
rising_remove (y ∷ xs) zero rising = rising.1
rising_remove (y ∷ xs) (suc i) rising = (below_all_remove xs i y rising.0, rising_remove xs i rising.1)

-- what is left of a list that began with y, where y is taken out
cut_first : (ys : List ℕ) (y q : ℕ) → IsBelowAll y ys → has ys q ≡ (not (y == q) && ((y == q) || has ys q))
cut_first ys y q below = elim (eqb_tells y q) [
  | inl same ↦ subst (λ (z : ℕ). has ys z ≡ (not (y == z) && ((y == z) || has ys z))) same.1
      (below_lacks ys y below ∙ sym (ap (λ (b : Bool). not b && (b || has ys y)) (eq-eqb y y refl)))
  | inr other ↦ sym (ap (λ (b : Bool). not b && (b || has ys q)) other.0)
]

keep_first : (b c d : Bool) → (b ≡ true → c ≡ false) → (b || (not c && d)) ≡ (not c && (b || d))
keep_first true true d apart = absurd (let wrong = apart refl in cc)
keep_first true false d apart = refl
keep_first false c d apart = refl

pub has_remove : (xs : List ℕ) (i x q : ℕ) → IsRising xs → i < length xs → get_or xs i 0 ≡ x → has (remove xs i) q ≡ (not (x == q) && has xs q)
has_remove [] i x q rising within at = absurd (omega (arith, within))
has_remove (y ∷ xs) zero x q rising within at = subst (λ (z : ℕ). has xs q ≡ (not (z == q) && ((y == q) || has xs q))) at (cut_first xs y q rising.0)
has_remove (y ∷ xs) (suc i) x q rising within at =
    let within' : i < length xs = omega (arith, within) in
    let less : y < x = subst (λ (z : ℕ). y < z) at (below_all_get xs y i rising.0 within') in
    ap (λ (b : Bool). (y == q) || b) (has_remove xs i x q rising.1 within' at)
    ∙ keep_first (y == q) (x == q) (has xs q) (λ first. elim (eqb_tells y q) [
      | inl same ↦ ne_eqb x q (λ e. let e' : y ≡ q = same.1 in omega (arith, less, e, e'))
      | inr other ↦ absurd (let no : false ≡ true = sym other.0 ∙ first in cc)
    ])

pub has_at : (xs : List ℕ) (i x : ℕ) → i < length xs → get_or xs i 0 ≡ x → has xs x ≡ true
has_at [] i x within at = absurd (omega (arith, within))
has_at (y ∷ xs) zero x within at = ap (λ (b : Bool). b || has xs x) (eq-eqb y x at)
has_at (y ∷ xs) (suc i) x within at = ap (λ (b : Bool). (y == x) || b) (has_at xs i x (omega (arith, within)) at) ∙ or_true (y == x)

pub lacks_all : (xs : List ℕ) (x : ℕ) → ((k : ℕ) → k < length xs → get_or xs k 0 ≢ x) → has xs x ≡ false
lacks_all [] x each = refl
lacks_all (y ∷ xs) x each =
    ap (λ (b : Bool). b || has xs x) (ne_eqb y x (each zero (omega arith))) ∙ lacks_all xs x (λ k within. each (suc k) (omega (arith, within)))

-- a tag that is there already
pub put_again : (xs : List ℕ) (x q : ℕ) → has xs x ≡ true → has xs q ≡ ((x == q) || has xs q)
put_again xs x q there = elim (eqb_tells x q) [
  | inl same ↦ subst (λ (z : ℕ). has xs z ≡ ((x == z) || has xs z)) same.1 (there ∙ sym (ap (λ (b : Bool). (x == x) || b) there ∙ or_true (x == x)))
  | inr other ↦ sym (ap (λ (b : Bool). b || has xs q) other.0)
]

-- rising lists as binary search wants them
pub rising_le : (xs : List ℕ) → IsRising xs → (i j : ℕ) → i ≤ j → j < length xs → get_or xs i 0 ≤ get_or xs j 0
rising_le [] rising i j most within = absurd (omega (arith, within))
rising_le (y ∷ xs) rising zero zero most within = omega arith
rising_le (y ∷ xs) rising zero (suc j) most within = let less = below_all_get xs y j rising.0 (omega (arith, within)) in omega (arith, less)
rising_le (y ∷ xs) rising (suc i) zero most within = absurd (omega (arith, most))
rising_le (y ∷ xs) rising (suc i) (suc j) most within = rising_le xs rising.1 i j (omega (arith, most)) (omega (arith, within))

pub lacks_split : (xs : List ℕ) (i x : ℕ) → ((k : ℕ) → k < i → get_or xs k 0 < x) → ((k : ℕ) → i ≤ k → k < length xs → x < get_or xs k 0) → has xs x ≡ false
lacks_split xs i x low high = lacks_all xs x (λ k within same. elim (cases_lt k i) [
  | inl less ↦ (let below = low k less in omega (arith, below, same))
  | inr most ↦ (let above = high k most within in omega (arith, above, same))
])

-- a list has what it has in another order too
pub either : (b : Bool) (n : ℕ) → nat_lt 0 (cond b 1 0 + n) ≡ (b || nat_lt 0 n)
either true n = lt_tells n
  where
    lt_tells : (n : ℕ) → nat_lt 0 (1 + n) ≡ true
    lt_tells n = search rules
either false n = ap (nat_lt 0) (omega arith)

has_sum : (xs : List ℕ) (q : ℕ) → has xs q ≡ nat_lt 0 (sum_by (λ x. cond (x == q) 1 0) xs)
has_sum [] q = refl
has_sum (x ∷ xs) q =
    ap (λ (b : Bool). (x == q) || b) (has_sum xs q) ∙ sym (either (x == q) (sum_by (λ x. cond (x == q) 1 0) xs))
    ∙ ap (nat_lt 0) (sym (sum_by-cons (λ x. cond (x == q) 1 0) x xs))

pub has_in_order : (xs ys : List ℕ) (q : ℕ) → IsPermutation xs ys → has ys q ≡ has xs q
has_in_order xs ys q p = has_sum ys q ∙ ap (nat_lt 0) (sum_by-IsPermutation (λ x. cond (x == q) 1 0) xs ys p) ∙ sym (has_sum xs q)

pub has_at_end : (xs : List ℕ) (x q : ℕ) → has (xs ++ x ∷ []) q ≡ ((x == q) || has xs q)
has_at_end [] x q = refl
has_at_end (y ∷ xs) x q = ap (λ (b : Bool). (y == q) || b) (has_at_end xs x q) ∙ or_swap (y == q) (x == q) (has xs q)

below_all_end : (xs : List ℕ) (y x : ℕ) → y < x → IsBelowAll y xs → IsBelowAll y (xs ++ x ∷ [])
below_all_end [] y x less below = (less, tt)
below_all_end (z ∷ xs) y x less below = (below.0, below_all_end xs y x less below.1)

rising_at_end : (xs : List ℕ) (x : ℕ) → IsRising xs → ((k : ℕ) → k < length xs → get_or xs k 0 < x) → IsRising (xs ++ x ∷ [])
rising_at_end [] x rising low = (tt, tt)
rising_at_end (y ∷ xs) x rising low = (below_all_end xs y x (low zero (omega arith)) rising.0, rising_at_end xs x rising.1 (λ k within. low (suc k) (omega (arith, within))))

-- a tag at the end that is above the last
pub rising_above : (xs : List ℕ) (x : ℕ) → IsRising xs → (0 < length xs → get_or xs (length xs - 1) 0 < x) → IsRising (xs ++ x ∷ [])
rising_above xs x rising above = rising_at_end xs x rising (λ k within.
    let last = above (omega (arith, within)) in
    let most = rising_le xs rising k (length xs - 1) (omega (arith, within)) (omega (arith, within)) in
    omega (arith, last, most))

pub or_more : (a b c : Bool) → (b ≡ true → c ≡ true) → (a || b) ≡ true → (a || c) ≡ true
or_more true b c more there = refl
or_more false b c more there = more there

-- the sweep that takes one tag out
pub sweeps_cut : (xs ys : List ℕ) (tag : ℕ) (gone : List ℕ) → ((q : ℕ) → has ys q ≡ (not (tag == q) && has xs q)) → Sweeps xs ys tag gone
sweeps_cut xs ys tag gone told = record {
  lost = told tag ∙ ap (λ (b : Bool). not b && has xs tag) (eq-eqb tag tag refl);
  kept = λ q other among. told q ∙ ap (λ (b : Bool). not b && has xs q) (ne_eqb tag q (λ same. other (sym same)));
  fewer = λ q there. second (not (tag == q)) (has xs q) (sym (told q) ∙ there);
}
  where
    second : (a b : Bool) → (a && b) ≡ true → b ≡ true
    second true b both = both
    second false b both = absurd (let wrong : false ≡ true = both in cc)

-- the sweep of a tag that is not there
pub sweeps_none : (xs : List ℕ) (tag : ℕ) (gone : List ℕ) → has xs tag ≡ false → Sweeps xs xs tag gone
sweeps_none xs tag gone lacks = record { lost = lacks; kept = λ q _ _. refl; fewer = λ q there. there }

pub none_left : (xs : List ℕ) → length xs ≡ 0 → xs ≡ []
none_left [] none = refl
none_left (x ∷ xs) none = absurd (omega (arith, none))

-- what a search found is there, in any order
pub found_has : (xs : List ℕ) (x : ℕ) (r : Result ℕ ℕ) → IsSearchInRange r (length xs) → IfOk r (HoldsAt (λ y. nat_cmp y x ≡ Equal) xs) → is_ok r ≡ true → has xs x ≡ true
found_has xs x (Ok i) within holds found = has_at xs i x within (ranked (get_or xs i 0) x Equal (sym (holds 0)))
found_has xs x (Err i) within holds found = absurd (let wrong : false ≡ true = found in cc)
