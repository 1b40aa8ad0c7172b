-- The numbers of the symbols of a list, and a symbol that is put into it.
use Rattle.std.proofs.Common.{◌≡◌, ℕ, zero, suc, ◌+◌, ◌*◌, ◌==◌, Bool, true, false, cond, Some, List, [], ◌∷◌, ◌++◌, length, take, drop, refl, ap, ◌∙◌, sym, arith}
use Rattle.std.specs.Prelude.{◌≢◌, ℤ, slice_get, count_by}
use Rattle.std.proofs.lemmas.Bool.{ne_eqb}
use Rattle.std.proofs.lemmas.List.Sums.{sum_by-cons}
use Rattle.lsys_syntax.specs.Strings.{Symbol}
use Rattle.lsys_syntax.specs.Commands.{by_place, by_name}
use Rattle.lsys_spec.specs.Systems.{Each}
use Rattle.lsys_spec.specs.Draws.{number_base}
use Rattle.lsys_spec.specs.Numbers.{code_of, numbers_from, numbers}

-- places

pub placed_from : (n : ℕ) (before : List ℕ) (xs : List (Symbol ℤ)) (p : ℕ) (x : Symbol ℤ) → slice_get xs p ≡ Some x → slice_get (numbers_from by_place n before xs) p ≡ Some (n + p)
placed_from n before [] p x h = cc
placed_from n before (y ∷ xs) zero x h = ap (λ i. Some i) (let e : n ≡ n + 0 = omega arith in e)
placed_from n before (y ∷ xs) (suc p) x h =
    placed_from (n + 1) (code_of y ∷ before) xs p x h ∙ ap (λ i. Some i) (let e : n + 1 + p ≡ n + suc p = omega arith in e)

-- names: how often a code stands among codes, and among symbols

abbrev among : ℕ → List ℕ → ℕ
among c codes = count_by (λ d. d == c) codes

abbrev among_symbols : ℕ → List (Symbol ℤ) → ℕ
among_symbols c xs = count_by (λ y. code_of y == c) xs

one_code : (c d : ℕ) (codes : List ℕ) → among c (d ∷ codes) ≡ cond (d == c) 1 0 + among c codes
one_code c d codes = sum_by-cons (λ e. cond (e == c) 1 0) d codes

none_more : (b : Bool) (n : ℕ) → b ≡ false → cond b 1 0 + n ≡ n
none_more true n h = cc
none_more false n h = let e : 0 + n ≡ n = omega arith in e

one_symbol : (c : ℕ) (y : Symbol ℤ) (xs : List (Symbol ℤ)) → among_symbols c (y ∷ xs) ≡ cond (code_of y == c) 1 0 + among_symbols c xs
one_symbol c y xs = sum_by-cons (λ z. cond (code_of z == c) 1 0) y xs

pub named_from : (n : ℕ) (before : List ℕ) (xs : List (Symbol ℤ)) (p : ℕ) (x : Symbol ℤ) → slice_get xs p ≡ Some x
    → slice_get (numbers_from by_name n before xs) p ≡ Some (number_base * code_of x + (among (code_of x) before + among_symbols (code_of x) (take p xs)))
named_from n before [] p x h = cc
named_from n before (y ∷ xs) zero x h =
    let e : y ≡ x = cc in
    ap (λ z. Some (number_base * code_of z + among (code_of z) before)) e ∙ ap (λ i. Some (number_base * code_of x + i)) (let f : among (code_of x) before ≡ among (code_of x) before + 0 = omega arith in f)
named_from n before (y ∷ xs) (suc p) x h =
    let c : ℕ = code_of x in
    let a = one_code c (code_of y) before in
    let b = one_symbol c y (take p xs) in
    named_from (n + 1) (code_of y ∷ before) xs p x h
    ∙ ap (λ i. Some (number_base * c + i)) (let e : among c (code_of y ∷ before) + among_symbols c (take p xs) ≡ among c before + among_symbols c (y ∷ take p xs) = omega (arith, a, b) in e)

-- insertion

-- codes that count alike for all symbols give the same numbers
same_numbers : (n m : ℕ) (a b : List ℕ) (xs : List (Symbol ℤ)) → ((c : ℕ) → Each (λ y. (code_of y ≡ c → among c a ≡ among c b)) xs) → numbers_from by_name n a xs ≡ numbers_from by_name m b xs
same_numbers n m a b [] h = refl
same_numbers n m a b (y ∷ xs) h =
    ap (λ i. (number_base * code_of y + i) ∷ numbers_from by_name (n + 1) (code_of y ∷ a) xs) ((h (code_of y)).0 refl)
    ∙ ap (λ is. (number_base * code_of y + among (code_of y) b) ∷ is) (same_numbers (n + 1) (m + 1) (code_of y ∷ a) (code_of y ∷ b) xs (λ c. more c xs (h c).1))
  where
    more : (c : ℕ) (zs : List (Symbol ℤ)) → Each (λ z. (code_of z ≡ c → among c a ≡ among c b)) zs → Each (λ z. (code_of z ≡ c → among c (code_of y ∷ a) ≡ among c (code_of y ∷ b))) zs
    more c [] g = tt
    more c (z ∷ zs) g = (λ e. one_code c (code_of y) a ∙ ap (λ i. cond (code_of y == c) 1 0 + i) (g.0 e) ∙ sym (one_code c (code_of y) b), more c zs g.1)

unlike_first : (x : Symbol ℤ) (before : List ℕ) (xs : List (Symbol ℤ)) → Each (λ y. code_of y ≢ code_of x) xs → (c : ℕ) → Each (λ y. (code_of y ≡ c → among c (code_of x ∷ before) ≡ among c before)) xs
unlike_first x before [] h c = tt
unlike_first x before (y ∷ xs) h c = (
  λ e. one_code c (code_of x) before ∙ none_more (code_of x == c) (among c before) (ne_eqb (code_of x) c (λ f. h.0 (e ∙ sym f))),
  unlike_first x before xs h.1 c,
)

inserted_from : (n : ℕ) (before : List ℕ) (front back : List (Symbol ℤ)) (x : Symbol ℤ) → among (code_of x) before ≡ 0 → Each (λ y. code_of y ≢ code_of x) (front ++ back)
    → numbers_from by_name n before (front ++ x ∷ back)
    ≡ take (length front) (numbers_from by_name n before (front ++ back)) ++ (number_base * code_of x) ∷ drop (length front) (numbers_from by_name n before (front ++ back))
inserted_from n before [] back x z h =
    ap (λ i. (number_base * code_of x + i) ∷ numbers_from by_name (n + 1) (code_of x ∷ before) back) z
    ∙ ap (λ i. i ∷ numbers_from by_name (n + 1) (code_of x ∷ before) back) (let e : number_base * code_of x + 0 ≡ number_base * code_of x = omega arith in e)
    ∙ ap (λ is. (number_base * code_of x) ∷ is) (same_numbers (n + 1) n (code_of x ∷ before) before back (unlike_first x before back h))
inserted_from n before (y ∷ front) back x z h =
    let none : among (code_of x) (code_of y ∷ before) ≡ 0 = one_code (code_of x) (code_of y) before ∙ none_more (code_of y == code_of x) (among (code_of x) before) (ne_eqb (code_of y) (code_of x) h.0) ∙ z in
    ap (λ is. (number_base * code_of y + among (code_of y) before) ∷ is) (inserted_from (n + 1) (code_of y ∷ before) front back x none h.1)

pub inserted : (front back : List (Symbol ℤ)) (x : Symbol ℤ) → Each (λ y. code_of y ≢ code_of x) (front ++ back)
    → numbers by_name (front ++ x ∷ back) ≡ take (length front) (numbers by_name (front ++ back)) ++ (number_base * code_of x) ∷ drop (length front) (numbers by_name (front ++ back))
inserted front back x h = inserted_from 0 [] front back x refl h

pub placed : (xs : List (Symbol ℤ)) (p : ℕ) (x : Symbol ℤ) → slice_get xs p ≡ Some x → slice_get (numbers by_place xs) p ≡ Some p
placed xs p x h = placed_from 0 [] xs p x h ∙ ap (λ i. Some i) (let e : 0 + p ≡ p = omega arith in e)

pub named : (xs : List (Symbol ℤ)) (p : ℕ) (x : Symbol ℤ) → slice_get xs p ≡ Some x → slice_get (numbers by_name xs) p ≡ Some (number_base * code_of x + among_symbols (code_of x) (take p xs))
named xs p x h = named_from 0 [] xs p x h ∙ ap (λ i. Some (number_base * code_of x + i)) (let e : 0 + among_symbols (code_of x) (take p xs) ≡ among_symbols (code_of x) (take p xs) = omega arith in e)
