-- The length of a string by its counts: each letter, and each branch twice.
use Rattle.std.proofs.Common.{◌≡◌, ℕ, zero, suc, ◌+◌, ◌<◌, Bool, true, false, ◌||◌, List, [], ◌∷◌, length, refl, sym, ◌∙◌, arith}
use Rattle.std.specs.Prelude.{ℤ}
use Rattle.std.proofs.lemmas.Bool.{eqb-true}
use Rattle.lsys_syntax.specs.Strings.{ModuleName, balanced}
use Rattle.lsys_syntax.specs.Strings as S
use Rattle.lsys_spec.specs.Systems.{same_name, Apart}
use Rattle.lsys_spec.proofs.Tests.{both, any_is}
use Rattle.lsys_growth.specs.Growth.{is_nil, is_bare, one_if, among}
use Rattle.lsys_growth.specs.Counts.{branch_count, count_at, all_among, letters_total}
use Rattle.lsys_growth.proofs.Sums.{sum_same, sum_zero, sum_plus}
use Rattle.lsys_growth.proofs.LevelCounts.{count_at-none, count_at-pop, count_at-cons, sum_front, absent, apart_absent}

one_letter : (ns : List ModuleName) (n : ModuleName) (ps : List ℤ) → Apart same_name ns → among ns n ≡ true → letters_total ns (S.Module n ps ∷ []) ≡ 1
one_letter [] n ps a h = cc
one_letter (m ∷ ns) n ps a h =
    sum_front (length ns) (λ i. count_at (m ∷ ns) i (S.Module n ps ∷ [])) ∙ by (same_name m n) refl (λ l. one_letter ns n ps a.1 l)
  where
    by : (b : Bool) → same_name m n ≡ b → (among ns n ≡ true → letters_total ns (S.Module n ps ∷ []) ≡ 1) → (one_if b + 0) + letters_total ns (S.Module n ps ∷ []) ≡ 1
    by true g f =
        let z = sum_same (length ns) (λ i. count_at ns i (S.Module n ps ∷ [])) (λ i. 0) (λ i b. absent ns n ps i (apart_absent ns m n g a.0) b) in
        let o = sum_zero (length ns) in
        omega (arith, z, o)
    by false g f =
        let k : same_name m n || among ns n ≡ true = sym (any_is (λ m. same_name m n) m ns) ∙ h in
        let l : among ns n ≡ true = rw g at k in
        let e = f l in
        omega (arith, e)

no_push : (ns : List ModuleName) (i : ℕ) → i < length ns → count_at {P = ℤ} ns i (S.Push ∷ []) ≡ 0
no_push [] i b = absurd (omega arith)
no_push (n ∷ ns) zero b = refl
no_push (n ∷ ns) (suc i) b = no_push ns i (omega arith)

total-cons : (ns : List ModuleName) (x : S.Symbol ℤ) (xs : List (S.Symbol ℤ)) → letters_total ns (x ∷ xs) ≡ letters_total ns (x ∷ []) + letters_total ns xs
total-cons ns x xs = sum_same (length ns) _ _ (λ i b. count_at-cons ns i x xs) ∙ sum_plus (length ns) (λ i. count_at ns i (x ∷ [])) (λ i. count_at ns i xs)

pub length_counts : (ns : List ModuleName) → Apart same_name ns → (n : ℕ) (xs : List (S.Symbol ℤ)) → is_bare xs ≡ true → all_among ns xs ≡ true → balanced n xs ≡ true
    → length xs ≡ letters_total ns xs + (branch_count xs + branch_count xs + n)
length_counts ns a n [] h k b =
    let z = sum_same (length ns) (λ i. count_at {P = ℤ} ns i []) (λ i. 0) (λ i l. count_at-none ns i) in
    let o = sum_zero (length ns) in
    let e : n ≡ 0 = eqb-true n 0 b in
    omega (arith, z, o, e)
length_counts ns a n (S.Module m ps ∷ xs) h k b =
    let e = length_counts ns a n xs (both (is_nil ps) (is_bare xs) h).1 (both (among ns m) (all_among ns xs) k).1 b in
    let t = total-cons ns (S.Module m ps) xs in
    let o = one_letter ns m ps a (both (among ns m) (all_among ns xs) k).0 in
    omega (arith, e, t, o)
length_counts ns a n (S.Push ∷ xs) h k b =
    let e = length_counts ns a (suc n) xs h k b in
    let t = total-cons ns S.Push xs in
    let z = sum_same (length ns) (λ i. count_at {P = ℤ} ns i (S.Push ∷ [])) (λ i. 0) (λ i l. no_push ns i l) in
    let o = sum_zero (length ns) in
    omega (arith, e, t, z, o)
length_counts ns a zero (S.Pop ∷ xs) h k b = cc
length_counts ns a (suc n) (S.Pop ∷ xs) h k b =
    let e = length_counts ns a n xs h k b in
    let z = sum_same (length ns) (λ i. count_at ns i (S.Pop ∷ xs)) (λ i. count_at ns i xs) (λ i l. count_at-pop ns i xs) in
    omega (arith, e, z)
length_counts ns a n (S.Cut ∷ xs) h k b = cc
