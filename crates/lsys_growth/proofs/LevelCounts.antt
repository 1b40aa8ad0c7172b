-- The counts of a level are those of the level before, by the matrix of the step.
use Rattle.std.proofs.Common.{◌≡◌, ℕ, zero, suc, ◌+◌, ◌*◌, ◌<◌, Bool, true, false, List, [], ◌∷◌, ◌++◌, length, map, refl, ap, sym, ◌∙◌, arith, ◌||◌, ◌≤◌, nat_lt}
use Rattle.std.specs.Prelude.{ℤ, None, Result, Ok, Err, bytes_eq, if◌then◌else◌}
use Rattle.std.proofs.lemmas.Bool.Decides.{nat_tests}
use Rattle.lsys_syntax.specs.Strings.{ModuleName}
use Rattle.lsys_syntax.specs.Strings as S
use Rattle.lsys_syntax.specs.Expressions.{Expr}
use Rattle.lsys_syntax.specs.Rules.{Production}
use Rattle.lsys_syntax.specs.Commands.{Numbering}
use Rattle.lsys_spec.specs.Systems.{System, same_name, module_name_text, Each, Apart}
use Rattle.lsys_spec.specs.Values.{◌and_then◌}
use Rattle.lsys_spec.specs.Bodies.{is_for, table_at}
use Rattle.lsys_spec.specs.Levels.{LevelSymbol, Push, Pop, Module, plain}
use Rattle.lsys_spec.specs.Cuts.{Raw, Plain, Cut, cut_on, cut}
use Rattle.lsys_spec.specs.Meaning.{LevelRefusal, OverLimit, FaultAt, numbered, children_from, next_level}
use Rattle.lsys_spec.specs.Morphisms.{given_alone, rewritten, raw_plain, AreMade}
use Rattle.lsys_spec.proofs.Tests.{both, and_true, any_is, none_of, each_way}
use Rattle.lsys_spec.proofs.Equal.{same_name_text, text_same_name}
use Rattle.lsys_spec.proofs.ContextFree.{children_made}
use Rattle.lsys_growth.specs.Sums.{sum_to, row_by}
use Rattle.lsys_growth.specs.Growth.{level_on, is_bare, is_plain_rule, all_plain, in_class, one_if, letter_count, among}
use Rattle.lsys_growth.specs.Counts.{branch_count, count_at, without_params, given_in, given, given_at, step_matrix, all_among, all_successors_among, replaced, AreLetters, counts_after, HasCounts}
use Rattle.lsys_growth.proofs.Sums.{sum_same, sum_zero, sum_plus}
use Rattle.lsys_growth.proofs.Alone.{class_free, class_unweighted, given_is, plain_rule}

-- 1. strings without cuts and parameters

bare-append : (xs ys : List (S.Symbol ℤ)) → is_bare xs ≡ true → is_bare ys ≡ true → is_bare (xs ++ ys) ≡ true
bare-append [] ys h k = k
bare-append (S.Module n [] ∷ xs) ys h k = bare-append xs ys h k
bare-append (S.Module n (p ∷ ps) ∷ xs) ys h k = cc
bare-append (S.Push ∷ xs) ys h k = bare-append xs ys h k
bare-append (S.Pop ∷ xs) ys h k = bare-append xs ys h k
bare-append (S.Cut ∷ xs) ys h k = cc

bare-bare : (xs : List (S.Symbol Expr)) → is_bare xs ≡ true → is_bare (without_params {Q = ℤ} xs) ≡ true
bare-bare [] h = refl
bare-bare (S.Module n [] ∷ xs) h = bare-bare xs h
bare-bare (S.Module n (p ∷ ps) ∷ xs) h = cc
bare-bare (S.Push ∷ xs) h = bare-bare xs h
bare-bare (S.Pop ∷ xs) h = bare-bare xs h
bare-bare (S.Cut ∷ xs) h = cc

given_bare : (table : List ℕ) (n : ModuleName) (ps : List Production) → all_plain ps ≡ true → is_bare (given_in table n ps) ≡ true
given_bare table n [] h = refl
given_bare table n (p ∷ ps) h =
    let e = both (is_plain_rule p.rule) (all_plain ps) h in
    by (is_for table n 0 p) (bare-bare p.rule.successor (plain_rule p.rule e.0).successor) (given_bare table n ps e.1)
  where
    by : (b : Bool) → is_bare (without_params {Q = ℤ} p.rule.successor) ≡ true → is_bare (given_in table n ps) ≡ true → is_bare (if b then without_params p.rule.successor else given_in table n ps) ≡ true
    by true f g = f
    by false f g = g

replaced_bare : (s : System) (t : ℕ) → in_class s ≡ true → (xs : List (S.Symbol ℤ)) → is_bare xs ≡ true → is_bare (replaced s t xs) ≡ true
replaced_bare s t h [] k = refl
replaced_bare s t h (S.Module n [] ∷ xs) k =
    bare-append (given s t n) (replaced s t xs) (given_bare (table_at s.schedule t) n s.rules (both (is_bare s.axiom_string) (all_plain s.rules) h).1) (replaced_bare s t h xs k)
replaced_bare s t h (S.Module n (p ∷ ps) ∷ xs) k = cc
replaced_bare s t h (S.Push ∷ xs) k = replaced_bare s t h xs k
replaced_bare s t h (S.Pop ∷ xs) k = replaced_bare s t h xs k
replaced_bare s t h (S.Cut ∷ xs) k = cc

-- 2. the next level is the string, each letter rewritten

rewritten_is : (s : System) (t : ℕ) → in_class s ≡ true → (xs : List (S.Symbol ℤ)) → is_bare xs ≡ true → rewritten (given_alone s t) xs ≡ Ok (replaced s t xs)
rewritten_is s t h [] k = refl
rewritten_is s t h (S.Module n [] ∷ xs) k = rw (given_is s h t n, rewritten_is s t h xs k) refl
rewritten_is s t h (S.Module n (p ∷ ps) ∷ xs) k = cc
rewritten_is s t h (S.Push ∷ xs) k = rw (rewritten_is s t h xs k) refl
rewritten_is s t h (S.Pop ∷ xs) k = rw (rewritten_is s t h xs k) refl
rewritten_is s t h (S.Cut ∷ xs) k = cc

uncut : (raw : List Raw) → is_bare (map raw_plain raw) ≡ true → map plain (cut_on None raw) ≡ map raw_plain raw
uncut [] h = refl
uncut (Cut l ∷ raw) h = cc
uncut (Plain (Module l m) ∷ raw) h = ap (λ ys. S.Module m.name m.params ∷ ys) (uncut raw (both _ _ h).1)
uncut (Plain (Push l) ∷ raw) h = ap (λ ys. S.Push ∷ ys) (uncut raw h)
uncut (Plain (Pop l) ∷ raw) h = ap (λ ys. S.Pop ∷ ys) (uncut raw h)

-- a level whose symbols are these
abbrev pub IsMade : Result (List LevelSymbol) LevelRefusal → List (S.Symbol ℤ) → Type 0
IsMade (Ok x) ys = map plain x ≡ ys
IsMade (Err r) ys = ⊥

cut_made : (r : Result (List Raw) LevelRefusal) (ys : List (S.Symbol ℤ)) → AreMade r (Ok ys) → is_bare ys ≡ true → IsMade (r and_then λ raw. Ok (cut raw)) ys
cut_made (Ok raw) ys e h = let k : is_bare (map raw_plain raw) ≡ true = rw e h in uncut raw k ∙ e
cut_made (Err (FaultAt k t n)) ys e h = absurd e
cut_made (Err (OverLimit t)) ys e h = absurd e

pub next_made : (s : System) (t : ℕ) → in_class s ≡ true → (x : List LevelSymbol) → is_bare (map plain x) ≡ true → IsMade (next_level s t x) (replaced s t (map plain x))
next_made s t h x k =
    let e : AreMade (children_from s t x 0 0 x) (rewritten (given_alone s t) (map plain x)) = children_made s t (class_free s h t) (class_unweighted s h t) x 0 0 x in
    let f : AreMade (children_from s t x 0 0 x) (Ok (replaced s t (map plain x))) = rw (rewritten_is s t h (map plain x) k) at e in
    cut_made (children_from s t x 0 0 x) (replaced s t (map plain x)) f (replaced_bare s t h (map plain x) k)

pub first_uncut : (g : Numbering) (n : ℕ) (before l : List ℕ) (xs : List (S.Symbol ℤ)) → is_bare xs ≡ true → map plain (cut_on None (numbered g n before l xs)) ≡ xs
first_uncut g n before l [] h = refl
first_uncut g n before l (S.Module m ps ∷ xs) h = ap (λ ys. S.Module m ps ∷ ys) (first_uncut g (n + 1) _ l xs (both _ _ h).1)
first_uncut g n before l (S.Push ∷ xs) h = ap (λ ys. S.Push ∷ ys) (first_uncut g (n + 1) _ l xs h)
first_uncut g n before l (S.Pop ∷ xs) h = ap (λ ys. S.Pop ∷ ys) (first_uncut g (n + 1) _ l xs h)
first_uncut g n before l (S.Cut ∷ xs) h = cc

-- 3. counts

letter_count-append : (n : ModuleName) (xs ys : List (S.Symbol ℤ)) → letter_count n (xs ++ ys) ≡ letter_count n xs + letter_count n ys
letter_count-append n [] ys = omega arith
letter_count-append n (S.Module m ps ∷ xs) ys = let e = letter_count-append n xs ys in omega (arith, e)
letter_count-append n (S.Push ∷ xs) ys = letter_count-append n xs ys
letter_count-append n (S.Pop ∷ xs) ys = letter_count-append n xs ys
letter_count-append n (S.Cut ∷ xs) ys = letter_count-append n xs ys

branch_count-append : (xs ys : List (S.Symbol ℤ)) → branch_count (xs ++ ys) ≡ branch_count xs + branch_count ys
branch_count-append [] ys = omega arith
branch_count-append (S.Module m ps ∷ xs) ys = branch_count-append xs ys
branch_count-append (S.Push ∷ xs) ys = let e = branch_count-append xs ys in omega (arith, e)
branch_count-append (S.Pop ∷ xs) ys = branch_count-append xs ys
branch_count-append (S.Cut ∷ xs) ys = branch_count-append xs ys

pub count_at-append : (ns : List ModuleName) (j : ℕ) (xs ys : List (S.Symbol ℤ)) → count_at ns j (xs ++ ys) ≡ count_at ns j xs + count_at ns j ys
count_at-append [] j xs ys = branch_count-append xs ys
count_at-append (n ∷ ns) zero xs ys = letter_count-append n xs ys
count_at-append (n ∷ ns) (suc j) xs ys = count_at-append ns j xs ys

-- a bracket that ends a branch counts nowhere
pub count_at-pop : (ns : List ModuleName) (j : ℕ) (xs : List (S.Symbol ℤ)) → count_at ns j (S.Pop ∷ xs) ≡ count_at ns j xs
count_at-pop [] j xs = refl
count_at-pop (n ∷ ns) zero xs = refl
count_at-pop (n ∷ ns) (suc j) xs = count_at-pop ns j xs

pub count_at-none : (ns : List ModuleName) (j : ℕ) → count_at {P = ℤ} ns j [] ≡ 0
count_at-none [] j = refl
count_at-none (n ∷ ns) zero = refl
count_at-none (n ∷ ns) (suc j) = count_at-none ns j

-- names with one text are counted and rewritten alike
same_either : (m n p : ModuleName) → same_name m n ≡ true → same_name p m ≡ same_name p n
same_either m n p h = ap (λ t. bytes_eq (module_name_text p) t) (same_name_text m n h)

count_at-same : (ns : List ModuleName) (j : ℕ) (m n : ModuleName) → same_name m n ≡ true → count_at {P = ℤ} ns j (S.Module m [] ∷ []) ≡ count_at {P = ℤ} ns j (S.Module n [] ∷ [])
count_at-same [] j m n h = refl
count_at-same (p ∷ ns) zero m n h = ap (λ b. one_if b + 0) (same_either m n p h)
count_at-same (p ∷ ns) (suc j) m n h = count_at-same ns j m n h

given_same : (ns : List ModuleName) (j : ℕ) (table : List ℕ) (m n : ModuleName) (ps : List Production) → same_name m n ≡ true → count_at ns j (given_in table m ps) ≡ count_at ns j (given_in table n ps)
given_same ns j table m n [] h = count_at-same ns j m n h
given_same ns j table m n (p ∷ ps) h =
    let e : is_for table m 0 p ≡ is_for table n 0 p = rw (same_either m n p.rule.name h) refl in
    rw e (by (is_for table n 0 p) (given_same ns j table m n ps h))
  where
    by : (b : Bool) → count_at ns j (given_in table m ps) ≡ count_at ns j (given_in table n ps)
        → count_at ns j (if b then without_params p.rule.successor else given_in table m ps) ≡ count_at ns j (if b then without_params p.rule.successor else given_in table n ps)
    by true g = refl
    by false g = g

-- 4. a letter by the matrix: its row

-- the sum from the front
pub sum_front : (k : ℕ) (f : ℕ → ℕ) → sum_to (suc k) f ≡ f 0 + sum_to k (λ i. f (suc i))
sum_front zero f = omega arith
sum_front (suc k) f = let e = sum_front k f in omega (arith, e)

-- a letter that isn't among them counts nowhere
pub absent : (ns : List ModuleName) (n : ModuleName) (ps : List ℤ) (i : ℕ) → among ns n ≡ false → i < length ns → count_at ns i (S.Module n ps ∷ []) ≡ 0
absent [] n ps i h b = absurd (omega arith)
absent (m ∷ ns) n ps zero h b = let e = (none_of (λ m. same_name m n) m ns h).0 in rw e refl
absent (m ∷ ns) n ps (suc i) h b = absent ns n ps i (none_of (λ m. same_name m n) m ns h).1 (omega arith)

count_at-end : (ns : List ModuleName) (n : ModuleName) (ps : List ℤ) → count_at ns (length ns) (S.Module n ps ∷ []) ≡ 0
count_at-end [] n ps = refl
count_at-end (m ∷ ns) n ps = count_at-end ns n ps

swapped : (m n : ModuleName) → same_name m n ≡ true → same_name n m ≡ true
swapped m n h = text_same_name n m (sym (same_name_text m n h))

-- what is apart from all of them isn't among them, nor is what is the same
pub apart_absent : (ns : List ModuleName) (m n : ModuleName) → same_name m n ≡ true → Each (λ y. same_name m y ≡ false) ns → among ns n ≡ false
apart_absent [] m n h a = refl
apart_absent (p ∷ ns) m n h a =
    let e : same_name p n ≡ false = turned p a.0 in
    any_is (λ p. same_name p n) p ns ∙ rw (e, apart_absent ns m n h a.1) refl
  where
    turned : (p : ModuleName) → same_name m p ≡ false → same_name p n ≡ false
    turned p f = sym (same_either m n p h) ∙ each_way (same_name p m) (same_name m p) (λ g. swapped p m g) (λ g. swapped m p g) ∙ f

-- what place i gives to the counts at place j after a step from a letter
abbrev letter_term : System → ℕ → ℕ → List ModuleName → List ModuleName → ModuleName → List ℤ → ℕ → ℕ
letter_term s t j all ns n ps i = count_at ns i (S.Module n ps ∷ []) * count_at all j (given_at s t ns i)

letter_term-none : (s : System) (t j : ℕ) (all ns : List ModuleName) (n : ModuleName) (ps : List ℤ) → among ns n ≡ false
    → (i : ℕ) → i < suc (length ns) → letter_term s t j all ns n ps i ≡ 0
letter_term-none s t j all ns n ps k i b = by (nat_lt i (length ns)) refl
  where
    by : (c : Bool) → nat_lt i (length ns) ≡ c → letter_term s t j all ns n ps i ≡ 0
    by true e = let l : i < length ns = grind (arith, nat_tests) in rw (absent ns n ps i k l) (omega arith)
    by false e =
        let l : length ns ≤ i = grind (arith, nat_tests) in
        let f : i ≡ length ns = omega arith in
        rw (f, count_at-end ns n ps) (omega arith)

one_and : (x y r : ℕ) → x ≡ y → r ≡ 0 → (1 + 0) * x + r ≡ y
one_and x y r e z = omega arith

none_and : (x r y : ℕ) → r ≡ y → (0 + 0) * x + r ≡ y
none_and x r y e = omega arith

letter_row : (s : System) (t j : ℕ) (all ns : List ModuleName) (n : ModuleName) (ps : List ℤ) → Apart same_name ns → among ns n ≡ true
    → sum_to (suc (length ns)) (letter_term s t j all ns n ps) ≡ count_at all j (given s t n)
letter_row s t j all [] n ps a h = cc
letter_row s t j all (m ∷ ns) n ps a h =
    let e : sum_to (suc (suc (length ns))) (letter_term s t j all (m ∷ ns) n ps)
    ≡ (one_if (same_name m n) + 0) * count_at all j (given s t m) + sum_to (suc (length ns)) (letter_term s t j all ns n ps) =
    sum_front (suc (length ns)) (letter_term s t j all (m ∷ ns) n ps) in
    e ∙ by (same_name m n) refl (λ l. letter_row s t j all ns n ps a.1 l)
  where
    by : (b : Bool) → same_name m n ≡ b → (among ns n ≡ true → sum_to (suc (length ns)) (letter_term s t j all ns n ps) ≡ count_at all j (given s t n)) → (one_if b + 0) * count_at all j (given s t m) + sum_to (suc (length ns)) (letter_term s t j all ns n ps) ≡ count_at all j (given s t n)
    by true g f =
        let z = sum_same (suc (length ns)) (letter_term s t j all ns n ps) (λ i. 0) (letter_term-none s t j all ns n ps (apart_absent ns m n g a.0)) in
        let o = sum_zero (suc (length ns)) in
        let e : count_at all j (given s t m) ≡ count_at all j (given s t n) = given_same all j (table_at s.schedule t) m n s.rules g in
        one_and (count_at all j (given s t m)) (count_at all j (given s t n)) _ e (z ∙ o)
    by false g f =
        let k : same_name m n || among ns n ≡ true = sym (any_is (λ m. same_name m n) m ns) ∙ h in
        let l : among ns n ≡ true = rw g at k in
        none_and (count_at all j (given s t m)) _ _ (f l)

push_row : (s : System) (t j : ℕ) (all ns : List ModuleName)
    → sum_to (suc (length ns)) (λ i. count_at {P = ℤ} ns i (S.Push ∷ []) * count_at all j (given_at s t ns i)) ≡ count_at {P = ℤ} all j (S.Push ∷ [])
push_row s t j all [] = omega arith
push_row s t j all (m ∷ ns) =
    let e = sum_front (suc (length ns)) (λ i. count_at {P = ℤ} (m ∷ ns) i (S.Push ∷ []) * count_at all j (given_at s t (m ∷ ns) i)) in
    let f = push_row s t j all ns in
    omega (arith, e, f)

-- 5. a string by the matrix

-- a symbol before a string
pub count_at-cons : (ns : List ModuleName) (j : ℕ) (x : S.Symbol ℤ) (xs : List (S.Symbol ℤ)) → count_at ns j (x ∷ xs) ≡ count_at ns j (x ∷ []) + count_at ns j xs
count_at-cons ns j x xs = count_at-append ns j (x ∷ []) xs

row-plus : (k : ℕ) (v w u : ℕ → ℕ) (a : ℕ → ℕ → ℕ) (j : ℕ) → ((i : ℕ) → i < k → u i ≡ v i + w i) → row_by k u a j ≡ row_by k v a j + row_by k w a j
row-plus k v w u a j h =
    sum_same k (λ i. u i * a i j) (λ i. v i * a i j + w i * a i j) (λ i b. times (u i) (v i) (w i) (a i j) (h i b)) ∙ sum_plus k (λ i. v i * a i j) (λ i. w i * a i j)
  where
    times : (u v w a : ℕ) → u ≡ v + w → u * a ≡ v * a + w * a
    times u v w a h = rw h (omega arith)

-- every letter of a string among them, each rewritten: the counts are those of the string by the matrix of the step
pub row_step : (s : System) (t : ℕ) (ns : List ModuleName) → Apart same_name ns → (xs : List (S.Symbol ℤ)) → is_bare xs ≡ true → all_among ns xs ≡ true
    → (j : ℕ) → count_at ns j (replaced s t xs) ≡ row_by (suc (length ns)) (λ i. count_at ns i xs) (step_matrix s ns t) j
row_step s t ns a [] h k j =
    count_at-none ns j ∙ sym (sum_same (suc (length ns)) (λ i. count_at {P = ℤ} ns i [] * step_matrix s ns t i j) (λ i. 0) (λ i b. rw (count_at-none ns i) (omega arith)) ∙ sum_zero (suc (length ns)))
row_step s t ns a (S.Module n ps ∷ xs) h k j =
    let m = both (among ns n) (all_among ns xs) k in
    count_at-append ns j (given s t n) (replaced s t xs)
    ∙ add_up _ _ _ _ (sym (letter_row s t j ns ns n ps a m.0)) (row_step s t ns a xs (both _ _ h).1 m.1 j)
    ∙ sym (row-plus (suc (length ns)) (λ i. count_at ns i (S.Module n ps ∷ [])) (λ i. count_at ns i xs) (λ i. count_at ns i (S.Module n ps ∷ xs)) (step_matrix s ns t) j (λ i b. count_at-cons ns i (S.Module n ps) xs))
  where
    add_up : (x y u v : ℕ) → x ≡ u → y ≡ v → x + y ≡ u + v
    add_up x y u v e f = cc
row_step s t ns a (S.Push ∷ xs) h k j =
    count_at-cons ns j S.Push (replaced s t xs)
    ∙ add_up _ _ _ _ (sym (push_row s t j ns ns)) (row_step s t ns a xs h k j)
    ∙ sym (row-plus (suc (length ns)) (λ i. count_at {P = ℤ} ns i (S.Push ∷ [])) (λ i. count_at ns i xs) (λ i. count_at ns i (S.Push ∷ xs)) (step_matrix s ns t) j (λ i b. count_at-cons ns i S.Push xs))
  where
    add_up : (x y u v : ℕ) → x ≡ u → y ≡ v → x + y ≡ u + v
    add_up x y u v e f = cc
row_step s t ns a (S.Pop ∷ xs) h k j =
    count_at-pop ns j (replaced s t xs) ∙ row_step s t ns a xs h k j
    ∙ sum_same (suc (length ns)) (λ i. count_at ns i xs * step_matrix s ns t i j) (λ i. count_at ns i (S.Pop ∷ xs) * step_matrix s ns t i j) (λ i b. rw (count_at-pop ns i xs) refl)
row_step s t ns a (S.Cut ∷ xs) h k j = cc

-- 6. the letters of what is rewritten are among them

among-append : (ns : List ModuleName) (xs ys : List (S.Symbol ℤ)) → all_among ns xs ≡ true → all_among ns ys ≡ true → all_among ns (xs ++ ys) ≡ true
among-append ns [] ys h k = k
among-append ns (S.Module n ps ∷ xs) ys h k = let m = both (among ns n) (all_among ns xs) h in and_true _ _ m.0 (among-append ns xs ys m.1 k)
among-append ns (S.Push ∷ xs) ys h k = among-append ns xs ys h k
among-append ns (S.Pop ∷ xs) ys h k = among-append ns xs ys h k
among-append ns (S.Cut ∷ xs) ys h k = among-append ns xs ys h k

among-bare : (ns : List ModuleName) (xs : List (S.Symbol Expr)) → all_among ns xs ≡ true → all_among ns (without_params {Q = ℤ} xs) ≡ true
among-bare ns [] h = refl
among-bare ns (S.Module n ps ∷ xs) h = let m = both (among ns n) (all_among ns xs) h in and_true _ _ m.0 (among-bare ns xs m.1)
among-bare ns (S.Push ∷ xs) h = among-bare ns xs h
among-bare ns (S.Pop ∷ xs) h = among-bare ns xs h
among-bare ns (S.Cut ∷ xs) h = among-bare ns xs h

given_among : (ns : List ModuleName) (table : List ℕ) (n : ModuleName) (ps : List Production) → all_successors_among ns ps ≡ true → among ns n ≡ true → all_among ns (given_in table n ps) ≡ true
given_among ns table n [] h k = and_true (among ns n) true k refl
given_among ns table n (p ∷ ps) h k =
    let m = both (all_among ns p.rule.successor) (all_successors_among ns ps) h in
    by (is_for table n 0 p) (among-bare ns p.rule.successor m.0) (given_among ns table n ps m.1 k)
  where
    by : (b : Bool) → all_among ns (without_params {Q = ℤ} p.rule.successor) ≡ true → all_among ns (given_in table n ps) ≡ true → all_among ns (if b then without_params p.rule.successor else given_in table n ps) ≡ true
    by true f g = f
    by false f g = g

replaced_among : (s : System) (t : ℕ) (ns : List ModuleName) → all_successors_among ns s.rules ≡ true → (xs : List (S.Symbol ℤ)) → all_among ns xs ≡ true → all_among ns (replaced s t xs) ≡ true
replaced_among s t ns h [] k = refl
replaced_among s t ns h (S.Module n ps ∷ xs) k =
    let m = both (among ns n) (all_among ns xs) k in
    among-append ns (given s t n) (replaced s t xs) (given_among ns (table_at s.schedule t) n s.rules h m.0) (replaced_among s t ns h xs m.1)
replaced_among s t ns h (S.Push ∷ xs) k = replaced_among s t ns h xs k
replaced_among s t ns h (S.Pop ∷ xs) k = replaced_among s t ns h xs k
replaced_among s t ns h (S.Cut ∷ xs) k = replaced_among s t ns h xs k

-- 7. all levels

-- a level of bare symbols among the letters, with these counts
pub record IsCounted (ns : List ModuleName) (c : ℕ → ℕ) (xs : List (S.Symbol ℤ)) : Type 0 where
  pub is_bare : is_bare xs ≡ true
  pub is_among : all_among ns xs ≡ true
  pub counts : (j : ℕ) → count_at ns j xs ≡ c j

abbrev pub LevelCounted : Result (List LevelSymbol) LevelRefusal → List ModuleName → (ℕ → ℕ) → Type 0
LevelCounted (Ok x) ns c = IsCounted ns c (map plain x)
LevelCounted (Err r) ns c = ⊥

first_counted : (s : System) (ns : List ModuleName) → in_class s ≡ true → AreLetters s ns → LevelCounted (level_on s 0) ns (counts_after s ns 0)
first_counted s ns h l =
    let b = (both (is_bare s.axiom_string) (all_plain s.rules) h).0 in
    let e = first_uncut s.numbering 0 [] [] s.axiom_string b in
    rw e (record { is_bare = b; is_among = l.in_axiom; counts = λ j. refl })

next_counted : (s : System) (ns : List ModuleName) (t : ℕ) → in_class s ≡ true → AreLetters s ns → (r : Result (List LevelSymbol) LevelRefusal)
    → LevelCounted r ns (counts_after s ns t) → LevelCounted (r and_then next_level s t) ns (counts_after s ns (suc t))
next_counted s ns t h l (Ok x) c = by (next_level s t x) (next_made s t h x c.is_bare)
  where
    same_row : (j : ℕ) → row_by (suc (length ns)) (λ i. count_at ns i (map plain x)) (step_matrix s ns t) j ≡ counts_after s ns (suc t) j
    same_row j = sum_same (suc (length ns)) (λ i. count_at ns i (map plain x) * step_matrix s ns t i j) (λ i. counts_after s ns t i * step_matrix s ns (0 + t) i j) (λ i b. both_same i)
      where
        both_same : (i : ℕ) → count_at ns i (map plain x) * step_matrix s ns t i j ≡ counts_after s ns t i * step_matrix s ns (0 + t) i j
        both_same i = let e : 0 + t ≡ t = omega arith in rw (e, c.counts i) refl

    by : (r : Result (List LevelSymbol) LevelRefusal) → IsMade r (replaced s t (map plain x)) → LevelCounted r ns (counts_after s ns (suc t))
    by (Ok y) e =
        rw e (record {
          is_bare = replaced_bare s t h (map plain x) c.is_bare;
          is_among = replaced_among s t ns l.in_successors (map plain x) c.is_among;
          counts = λ j. row_step s t ns l.apart (map plain x) c.is_bare c.is_among j ∙ same_row j;
        })
    by (Err r) e = absurd e
next_counted s ns t h l (Err r) c = absurd c

pub counted : (s : System) (ns : List ModuleName) (N : ℕ) → in_class s ≡ true → AreLetters s ns → LevelCounted (level_on s N) ns (counts_after s ns N)
counted s ns zero h l = first_counted s ns h l
counted s ns (suc t) h l = next_counted s ns t h l (level_on s t) (counted s ns t h l)

-- each level is there, and its counts are those by the matrices
pub level_counts : (s : System) (ns : List ModuleName) (N : ℕ) → in_class s ≡ true → AreLetters s ns → HasCounts (level_on s N) ns (counts_after s ns N)
level_counts s ns N h l = by (level_on s N) (counted s ns N h l)
  where
    by : (r : Result (List LevelSymbol) LevelRefusal) → LevelCounted r ns (counts_after s ns N) → HasCounts r ns (counts_after s ns N)
    by (Ok x) c = λ j b. c.counts j
    by (Err r) c = c
