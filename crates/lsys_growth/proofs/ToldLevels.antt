-- The growth of a system by the counts of a level.
use Rattle.std.proofs.Common.{◌≡◌, ℕ, zero, suc, ◌+◌, Bool, true, false, List, [], ◌∷◌, ◌++◌, length, map, refl, ap, sym, ◌∙◌, subst, arith}
use Rattle.std.specs.Prelude.{ℤ, Some, Result, Ok, Err, filter, slice_get, if◌then◌else◌}
use Rattle.std.proofs.lemmas.Bool.{eqb-true}
use Rattle.std.proofs.Math.Nat.{add-mod_right}
use Rattle.lsys_syntax.specs.Strings.{ModuleName, balanced}
use Rattle.lsys_syntax.specs.Strings as S
use Rattle.lsys_syntax.specs.Expressions.{Expr}
use Rattle.lsys_syntax.specs.Rules.{Production}
use Rattle.lsys_spec.specs.Systems.{System, same_name, Each, Apart}
use Rattle.lsys_spec.specs.Values.{◌and_then◌}
use Rattle.lsys_spec.specs.Bodies.{is_for, table_at, word_at}
use Rattle.lsys_spec.specs.Levels.{LevelSymbol, plain}
use Rattle.lsys_spec.specs.Meaning.{LevelRefusal, next_level, meaning}
use Rattle.lsys_spec.proofs.Tests.{both}
use Rattle.lsys_spec.proofs.LevelInduction.{at_each_level}
use Rattle.lsys_growth.specs.Sums.{sum_to}
use Rattle.lsys_growth.proofs.Sums.{sum_same}
use Rattle.lsys_growth.specs.Growth.{in_class, is_bare, all_plain, level_on, letters, LetterCount, stands, count_in, census, census_within, level_counted}
use Rattle.lsys_growth.specs.Counts.{branch_count, count_at, without_params, given_in, given, given_at, step_matrix, replaced, told_length, paired, told_census, counts_after}
use Rattle.lsys_growth.proofs.LevelCounts as levels
use Rattle.lsys_growth.proofs.LevelCounts.{IsMade, next_made, first_uncut, IsCounted, LevelCounted}
use Rattle.lsys_growth.proofs.Lengths.{length_counts}
use Rattle.lsys_growth.proofs.LettersAmong.{are_letters}

-- 1. each level is balanced

pub record HasBrackets (s : System) : Type 0 where
  pub in_axiom : balanced 0 s.axiom_string ≡ true
  pub in_successors : Each (λ p. balanced 0 p.rule.successor ≡ true) s.rules

balanced-append : (k n : ℕ) (xs ys : List (S.Symbol ℤ)) → balanced k xs ≡ true → balanced n ys ≡ true → balanced (k + n) (xs ++ ys) ≡ true
balanced-append k n [] ys h g = let z : k ≡ 0 = eqb-true k 0 h in let e : n ≡ k + n = omega (arith, z) in subst (λ m. balanced m ys ≡ true) e g
balanced-append k n (S.Module m ps ∷ xs) ys h g = balanced-append k n xs ys h g
balanced-append k n (S.Push ∷ xs) ys h g = let e : suc k + n ≡ suc (k + n) = omega arith in subst (λ m. balanced m (xs ++ ys) ≡ true) e (balanced-append (suc k) n xs ys h g)
balanced-append zero n (S.Pop ∷ xs) ys h g = cc
balanced-append (suc k) n (S.Pop ∷ xs) ys h g = let e : suc (k + n) ≡ suc k + n = omega arith in subst (λ m. balanced m (S.Pop ∷ xs ++ ys) ≡ true) e (balanced-append k n xs ys h g)
balanced-append k n (S.Cut ∷ xs) ys h g = balanced-append k n xs ys h g

bare_balanced : (n : ℕ) (xs : List (S.Symbol Expr)) → balanced n xs ≡ true → balanced n (without_params {Q = ℤ} xs) ≡ true
bare_balanced n [] h = h
bare_balanced n (S.Module m ps ∷ xs) h = bare_balanced n xs h
bare_balanced n (S.Push ∷ xs) h = bare_balanced (suc n) xs h
bare_balanced zero (S.Pop ∷ xs) h = cc
bare_balanced (suc n) (S.Pop ∷ xs) h = bare_balanced n xs h
bare_balanced n (S.Cut ∷ xs) h = bare_balanced n xs h

given_balanced : (table : List ℕ) (n : ModuleName) (ps : List Production) → Each (λ p. balanced 0 p.rule.successor ≡ true) ps → balanced 0 (given_in table n ps) ≡ true
given_balanced table n [] h = refl
given_balanced table n (p ∷ ps) h = by (is_for table n 0 p) (given_balanced table n ps h.1)
  where
    by : (b : Bool) → balanced 0 (given_in table n ps) ≡ true → balanced 0 (if b then without_params p.rule.successor else given_in table n ps) ≡ true
    by true g = bare_balanced 0 p.rule.successor h.0
    by false g = g

replaced_balanced : (s : System) (t : ℕ) → HasBrackets s → (n : ℕ) (xs : List (S.Symbol ℤ)) → balanced n xs ≡ true → balanced n (replaced s t xs) ≡ true
replaced_balanced s t b n [] h = h
replaced_balanced s t b n (S.Module m ps ∷ xs) h =
    let e : 0 + n ≡ n = omega arith in
    subst (λ k. balanced k (given s t m ++ replaced s t xs) ≡ true) e
    (balanced-append 0 n (given s t m) (replaced s t xs) (given_balanced (table_at s.schedule t) m s.rules b.in_successors) (replaced_balanced s t b n xs h))
replaced_balanced s t b n (S.Push ∷ xs) h = replaced_balanced s t b (suc n) xs h
replaced_balanced s t b zero (S.Pop ∷ xs) h = cc
replaced_balanced s t b (suc n) (S.Pop ∷ xs) h = replaced_balanced s t b n xs h
replaced_balanced s t b n (S.Cut ∷ xs) h = replaced_balanced s t b n xs h

-- a level whose brackets are balanced, and what else is told of its symbols
abbrev LevelBalanced : Result (List LevelSymbol) LevelRefusal → Type 0
LevelBalanced (Ok x) = (is_bare (map plain x) ≡ true) × (balanced 0 (map plain x) ≡ true)
LevelBalanced (Err r) = ⊥

both_told : (r : Result (List LevelSymbol) LevelRefusal) (ns : List ModuleName) (c : ℕ → ℕ) → LevelCounted r ns c → LevelBalanced r → (x : List LevelSymbol) × (r ≡ Ok x) × IsCounted ns c (map plain x) × (balanced 0 (map plain x) ≡ true)
both_told (Ok x) ns c h b = (x, refl, h, b.1)
both_told (Err r) ns c h b = absurd h

next_balanced : (s : System) (t : ℕ) → in_class s ≡ true → HasBrackets s → (r : Result (List LevelSymbol) LevelRefusal) → ((x : List LevelSymbol) → r and_then next_level s t ≡ Ok x → is_bare (map plain x) ≡ true)
    → LevelBalanced r → ((x : List LevelSymbol) × (r and_then next_level s t ≡ Ok x)) → LevelBalanced (r and_then next_level s t)
next_balanced s t h b (Ok x) f k o = by (next_level s t x) refl (next_made s t h x k.0)
  where
    by : (r : Result (List LevelSymbol) LevelRefusal) → next_level s t x ≡ r → IsMade r (replaced s t (map plain x)) → LevelBalanced r
    by (Ok y) e m = (f y e, rw m (replaced_balanced s t b 0 (map plain x) k.1))
    by (Err r) e m = absurd m
next_balanced s t h b (Err r) f k o = absurd k

-- the levels with their counts, as they are there
level_there : (r : Result (List LevelSymbol) LevelRefusal) (ns : List ModuleName) (c : ℕ → ℕ) → LevelCounted r ns c → (x : List LevelSymbol) × (r ≡ Ok x) × IsCounted ns c (map plain x)
level_there (Ok x) ns c h = (x, refl, h)
level_there (Err r) ns c h = absurd h

bare_there : (r : Result (List LevelSymbol) LevelRefusal) (ns : List ModuleName) (c : ℕ → ℕ) → LevelCounted r ns c → (x : List LevelSymbol) → r ≡ Ok x → is_bare (map plain x) ≡ true
bare_there (Ok y) ns c h x e = let q : y ≡ x = cc in subst (λ z. is_bare (map plain z) ≡ true) q h.is_bare
bare_there (Err r) ns c h x e = absurd h

all_balanced : (s : System) → in_class s ≡ true → HasBrackets s → (t : ℕ) → LevelBalanced (level_on s t)
all_balanced s h b zero =
    let e = first_uncut s.numbering 0 [] [] s.axiom_string (both (is_bare s.axiom_string) (all_plain s.rules) h).0 in
    (rw e (both (is_bare s.axiom_string) (all_plain s.rules) h).0, rw e b.in_axiom)
all_balanced s h b (suc t) =
    let c = levels.counted s (letters s) (suc t) h (are_letters s) in
    let o = level_there (level_on s (suc t)) (letters s) (counts_after s (letters s) (suc t)) c in
    next_balanced s t h b (level_on s t) (λ x e. bare_there (level_on s (suc t)) (letters s) (counts_after s (letters s) (suc t)) c x e) (all_balanced s h b t) (o.0, o.1)

-- 2. what the counts tell

count_last : (ns : List ModuleName) (xs : List (S.Symbol ℤ)) → count_at ns (length ns) xs ≡ branch_count xs
count_last [] xs = refl
count_last (n ∷ ns) xs = count_last ns xs

counted_pairs : (ns : List ModuleName) (xs : List (S.Symbol ℤ)) (c : ℕ → ℕ) → ((j : ℕ) → count_at ns j xs ≡ c j) → map (count_in xs) ns ≡ paired ns c
counted_pairs [] xs c h = refl
counted_pairs (n ∷ ns) xs c h =
    ap (λ (m : ℕ). record { letter = n; times = m } ∷ map (count_in xs) ns) (h 0) ∙ ap (λ l. record { letter = n; times = c 0 } ∷ l) (counted_pairs ns xs (λ i. c (suc i)) (λ j. h (suc j)))

census_told : (ns : List ModuleName) (xs : List (S.Symbol ℤ)) (c : ℕ → ℕ) → Apart same_name ns → IsCounted ns c xs → balanced 0 xs ≡ true → census ns xs ≡ told_census ns c
census_told ns xs c a h b =
    let l : length xs ≡ told_length (length ns) c =
    (let e = length_counts ns a 0 xs h.is_bare h.is_among b in
    let f : sum_to (length ns) (λ i. count_at ns i xs) ≡ sum_to (length ns) c = sum_same (length ns) (λ i. count_at ns i xs) c (λ i k. h.counts i) in
    let g : branch_count xs ≡ c (length ns) = sym (count_last ns xs) ∙ h.counts (length ns) in
    omega (arith, e, f, g)) in
    ap (λ (n : ℕ). record { symbols = n; counts = filter stands (map (count_in xs) ns) }) l
    ∙ ap (λ (l : List LetterCount). record { symbols = told_length (length ns) c; counts = filter stands l }) (counted_pairs ns xs c h.counts)

-- the level's letters, counted, are those that the matrices of the steps tell
pub level_told : (s : System) (t : ℕ) → in_class s ≡ true → HasBrackets s → level_counted (letters s) (level_on s t) ≡ census_within (told_census (letters s) (counts_after s (letters s) t))
level_told s t h b =
    let o = both_told (level_on s t) (letters s) (counts_after s (letters s) t) (levels.counted s (letters s) t h (are_letters s)) (all_balanced s h b t) in
    ap (level_counted (letters s)) o.1 ∙ ap census_within (census_told (letters s) (map plain o.0) (counts_after s (letters s) t) (are_letters s).apart o.2 o.3)

-- 3. the tables come round again

pub steps_again : (s : System) (ns : List ModuleName) (t i j : ℕ) → step_matrix s ns (t + length s.schedule) i j ≡ step_matrix s ns t i j
steps_again s ns t i j = ap (count_at ns j) (given_again ns i)
  where
    given_again : (ns : List ModuleName) (i : ℕ) → given_at s (t + length s.schedule) ns i ≡ given_at s t ns i
    given_again [] i = refl
    given_again (n ∷ ns) zero = ap (λ (m : ℕ). given_in (word_at s.schedule m) n s.rules) (add-mod_right t (length s.schedule))
    given_again (n ∷ ns) (suc i) = given_again ns i

-- 4. within the depth

pub within_depth : (s : System) (limit : ℕ) (xs : List (List LevelSymbol)) → meaning s limit ≡ Ok xs → (t : ℕ) (x : List LevelSymbol) → slice_get xs t ≡ Some x → level_on s t ≡ Ok x
within_depth s limit xs h t x g = at_each_level s (λ t x. level_on s t ≡ Ok x) refl (λ t x y e f. ap (λ r. r and_then next_level s t) e ∙ f) limit xs h t x g
