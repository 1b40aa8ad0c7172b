-- The letters of a system: each once, and all of them.
use Rattle.std.proofs.Common.{◌≡◌, suc, Bool, true, false, ◌||◌, ◌≤◌, List, [], ◌∷◌, ◌++◌, length, refl, ap, sym, ◌∙◌, arith}
use Rattle.std.specs.Prelude.{if◌then◌else◌}
use Rattle.lsys_syntax.specs.Strings.{ModuleName}
use Rattle.lsys_syntax.specs.Strings as S
use Rattle.lsys_syntax.specs.Rules.{Production}
use Rattle.lsys_spec.specs.Systems.{System, same_name, module_name_text, comes_before, Each, Apart}
use Rattle.lsys_spec.proofs.Tests.{and_true, any_is, none_of}
use Rattle.lsys_spec.proofs.Eachs.{each_front, each_back}
use Rattle.lsys_spec.proofs.Equal.{same_name_refl}
use Rattle.lsys_laws.proofs.Aparts.{bytes_eq_sym}
use Rattle.lsys_growth.specs.Growth.{among, module_names, all_rule_names, put_before, put_letter, put_letters, letters}
use Rattle.lsys_growth.specs.Counts.{all_among, all_successors_among, AreLetters}

-- 1. where a name is put, the others stay

first_among : (m : ModuleName) (ms : List ModuleName) (n : ModuleName) → same_name m n ≡ true → among (m ∷ ms) n ≡ true
first_among m ms n h = any_is (λ m. same_name m n) m ms ∙ rw h refl

later_among : (m : ModuleName) (ms : List ModuleName) (n : ModuleName) → among ms n ≡ true → among (m ∷ ms) n ≡ true
later_among m ms n h = any_is (λ m. same_name m n) m ms ∙ by (same_name m n) (among ms n) h
  where
    by : (a b : Bool) → b ≡ true → a || b ≡ true
    by true b h = refl
    by false b h = h

among_cases : (m : ModuleName) (ms : List ModuleName) (n : ModuleName) (P : Type 0) → (same_name m n ≡ true → P) → (among ms n ≡ true → P) → among (m ∷ ms) n ≡ true → P
among_cases m ms n P f g h = by (same_name m n) refl
  where
    by : (a : Bool) → same_name m n ≡ a → P
    by true e = f e
    by false e = let k : same_name m n || among ms n ≡ true = sym (any_is (λ m. same_name m n) m ms) ∙ h in g (rw e at k)

put_among : (n : ModuleName) (ms : List ModuleName) → among (put_before n ms) n ≡ true
put_among n [] = first_among n [] n (same_name_refl n)
put_among n (m ∷ ms) = by (comes_before (module_name_text n) (module_name_text m)) (put_among n ms)
  where
    by : (b : Bool) → among (put_before n ms) n ≡ true → among (if b then n ∷ m ∷ ms else m ∷ put_before n ms) n ≡ true
    by true h = first_among n (m ∷ ms) n (same_name_refl n)
    by false h = later_among m (put_before n ms) n h

put_keeps : (n : ModuleName) (ms : List ModuleName) (k : ModuleName) → among ms k ≡ true → among (put_before n ms) k ≡ true
put_keeps n [] k h = cc
put_keeps n (m ∷ ms) k h = by (comes_before (module_name_text n) (module_name_text m)) (put_keeps n ms k)
  where
    by : (b : Bool) → (among ms k ≡ true → among (put_before n ms) k ≡ true) → among (if b then n ∷ m ∷ ms else m ∷ put_before n ms) k ≡ true
    by true g = later_among n (m ∷ ms) k h
    by false g = among_cases m ms k (among (m ∷ put_before n ms) k ≡ true) (λ e. first_among m (put_before n ms) k e) (λ e. later_among m (put_before n ms) k (g e)) h

letter_among : (ms : List ModuleName) (n : ModuleName) → among (put_letter ms n) n ≡ true
letter_among ms n = by (among ms n) refl
  where
    by : (b : Bool) → among ms n ≡ b → among (if b then ms else put_before n ms) n ≡ true
    by true e = e
    by false e = put_among n ms

letter_keeps : (ms : List ModuleName) (n k : ModuleName) → among ms k ≡ true → among (put_letter ms n) k ≡ true
letter_keeps ms n k h = by (among ms n)
  where
    by : (b : Bool) → among (if b then ms else put_before n ms) k ≡ true
    by true = h
    by false = put_keeps n ms k h

letters_keep : (ms ns : List ModuleName) (k : ModuleName) → among ms k ≡ true → among (put_letters ms ns) k ≡ true
letters_keep ms [] k h = h
letters_keep ms (n ∷ ns) k h = letters_keep (put_letter ms n) ns k (letter_keeps ms n k h)

-- each name is among what it was put into
all_put : (ms ns : List ModuleName) → Each (λ n. among (put_letters ms ns) n ≡ true) ns
all_put ms [] = tt
all_put ms (n ∷ ns) = (letters_keep (put_letter ms n) ns n (letter_among ms n), all_put (put_letter ms n) ns)

-- 2. each once

unlike : (m n : ModuleName) → same_name m n ≡ false → same_name n m ≡ false
unlike m n h = bytes_eq_sym (module_name_text n) (module_name_text m) ∙ h

none_same : (n : ModuleName) (ms : List ModuleName) → among ms n ≡ false → Each (λ m. same_name n m ≡ false) ms
none_same n [] h = tt
none_same n (m ∷ ms) h = let e = none_of (λ m. same_name m n) m ms h in (unlike m n e.0, none_same n ms e.1)

each_put : (P : ModuleName → Type 0) (n : ModuleName) (ms : List ModuleName) → P n → Each P ms → Each P (put_before n ms)
each_put P n [] p h = (p, tt)
each_put P n (m ∷ ms) p h = by (comes_before (module_name_text n) (module_name_text m)) (each_put P n ms p h.1)
  where
    by : (b : Bool) → Each P (put_before n ms) → Each P (if b then n ∷ m ∷ ms else m ∷ put_before n ms)
    by true g = (p, h)
    by false g = (h.0, g)

apart_put : (n : ModuleName) (ms : List ModuleName) → among ms n ≡ false → Apart same_name ms → Apart same_name (put_before n ms)
apart_put n [] h a = (tt, tt)
apart_put n (m ∷ ms) h a =
    let e = none_of (λ m. same_name m n) m ms h in
    by (comes_before (module_name_text n) (module_name_text m)) e.0 (apart_put n ms e.1 a.1)
  where
    by : (b : Bool) → same_name m n ≡ false → Apart same_name (put_before n ms) → Apart same_name (if b then n ∷ m ∷ ms else m ∷ put_before n ms)
    by true e g = (none_same n (m ∷ ms) h, a)
    by false e g = (each_put (λ y. same_name m y ≡ false) n ms e a.0, g)

apart_letter : (ms : List ModuleName) (n : ModuleName) → Apart same_name ms → Apart same_name (put_letter ms n)
apart_letter ms n a = by (among ms n) refl
  where
    by : (b : Bool) → among ms n ≡ b → Apart same_name (if b then ms else put_before n ms)
    by true e = a
    by false e = apart_put n ms e a

apart_letters : (ms ns : List ModuleName) → Apart same_name ms → Apart same_name (put_letters ms ns)
apart_letters ms [] a = a
apart_letters ms (n ∷ ns) a = apart_letters (put_letter ms n) ns (apart_letter ms n a)

-- 3. those of a system

among_names : {P : Type 0} (ns : List ModuleName) (xs : List (S.Symbol P)) → Each (λ n. among ns n ≡ true) (module_names xs) → all_among ns xs ≡ true
among_names ns [] h = refl
among_names ns (S.Module n ps ∷ xs) h = and_true (among ns n) (all_among ns xs) h.0 (among_names ns xs h.1)
among_names ns (S.Push ∷ xs) h = among_names ns xs h
among_names ns (S.Pop ∷ xs) h = among_names ns xs h
among_names ns (S.Cut ∷ xs) h = among_names ns xs h

among_rules : (ns : List ModuleName) (ps : List Production) → Each (λ n. among ns n ≡ true) (all_rule_names ps) → all_successors_among ns ps ≡ true
among_rules ns [] h = refl
among_rules ns (p ∷ ps) h =
    let front = each_front (λ n. among ns n ≡ true) (p.rule.name ∷ module_names p.rule.successor) (all_rule_names ps) h in
    and_true (all_among ns p.rule.successor) (all_successors_among ns ps) (among_names ns p.rule.successor front.1)
    (among_rules ns ps (each_back (λ n. among ns n ≡ true) (p.rule.name ∷ module_names p.rule.successor) (all_rule_names ps) h))

pub are_letters : (s : System) → AreLetters s (letters s)
are_letters s =
    let all = all_put [] (module_names s.axiom_string ++ all_rule_names s.rules) in
    let in_letters : ModuleName → Type 0 = λ n. among (letters s) n ≡ true in
    record {
      apart = apart_letters [] (module_names s.axiom_string ++ all_rule_names s.rules) tt;
      in_axiom = among_names (letters s) s.axiom_string (each_front in_letters (module_names s.axiom_string) (all_rule_names s.rules) all);
      in_successors = among_rules (letters s) s.rules (each_back in_letters (module_names s.axiom_string) (all_rule_names s.rules) all);
    }

-- 4. no fewer by more names

pub put_longer : (n : ModuleName) (ms : List ModuleName) → length (put_before n ms) ≡ suc (length ms)
put_longer n [] = refl
put_longer n (m ∷ ms) = by (comes_before (module_name_text n) (module_name_text m)) (put_longer n ms)
  where
    by : (b : Bool) → length (put_before n ms) ≡ suc (length ms) → length (if b then n ∷ m ∷ ms else m ∷ put_before n ms) ≡ suc (suc (length ms))
    by true e = refl
    by false e = ap suc e

letter_longer : (ms : List ModuleName) (n : ModuleName) → length ms ≤ length (put_letter ms n)
letter_longer ms n = by (among ms n)
  where
    by : (b : Bool) → length ms ≤ length (if b then ms else put_before n ms)
    by true = omega arith
    by false = let e = put_longer n ms in omega (arith, e)

pub letters_longer : (ms ns : List ModuleName) → length ms ≤ length (put_letters ms ns)
letters_longer ms [] = omega arith
letters_longer ms (n ∷ ns) = let e = letter_longer ms n in let f = letters_longer (put_letter ms n) ns in omega (arith, e, f)

-- a new letter
pub letter_new : (ms : List ModuleName) (n : ModuleName) → among ms n ≡ false → put_letter ms n ≡ put_before n ms
letter_new ms n h = rw h refl

pub letters_more : (ms xs ys : List ModuleName) → put_letters ms (xs ++ ys) ≡ put_letters (put_letters ms xs) ys
letters_more ms [] ys = refl
letters_more ms (x ∷ xs) ys = letters_more (put_letter ms x) xs ys
