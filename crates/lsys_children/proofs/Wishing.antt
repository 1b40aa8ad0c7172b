-- The children that are made one after another are those that a successor wants.
use Rattle.std.proofs.Common.{◌≡◌, ◌≢◌, ℕ, zero, suc, ◌+◌, ◌*◌, ◌<◌, ◌≤◌, ◌==◌, ◌&&◌, ◌||◌, Bool, true, false, cond, count_by, map, Option, Some, None, List, [], ◌∷◌, ◌++◌, length, refl, ap, subst, arith}
use Rattle.std.specs.Prelude.{is_some, nat_eq}
use Rattle.std.proofs.lemmas.Bool.{eqb-true}
use Rattle.std.proofs.lemmas.Grind.{common_steps}
use Rattle.std.proofs.lemmas.List.Sums.{count_by-le-length, sum_by-cons}
use Rattle.lsys_syntax.specs.Commands.{Numbering, by_place, by_name}
use Rattle.lsys_spec.specs.Systems.{Each}
use Rattle.lsys_spec.specs.Draws.{number_base, child_key_of}
use Rattle.lsys_spec.specs.Levels as L
use Rattle.lsys_spec.specs.Cuts.{cut_on}
use Rattle.lsys_spec.specs.Numbers.{code_of, number_at}
use Rattle.lsys_spec.specs.Meaning.{numbered}
use Rattle.lsys_laws.specs.Children.{cutting_after, is_open}
use Rattle.lsys_rewrite.specs.Cutting.{symbol_stays, next_cutting}
use Rattle.lsys_module.specs.Views.{symbol_of, string_of, module_name}
use Rattle.lsys_module.specs.declared.symbol.Symbol.{Symbol}
use Rattle.lsys_module.specs.declared.symbol.Symbol.TheVariants as code
use Rattle.lsys_children.specs.declared.number.Number.{Number}
use Rattle.lsys_children.specs.declared.child.Child.{Child}
use Rattle.lsys_children.specs.Matches.{AreDifferent, same_child_number, has_number}
use Rattle.lsys_children.specs.Children.{numbers_of, AreWhole}
use Rattle.lsys_children.specs.NumbersOf.{numbered_at, child_if, child_at, wanted_from}
use Rattle.lsys_children.specs.Wishes.{child_number, child_symbol, AreWanted}

-- 1. one after another

abbrev pub cutting_past : Option ℕ → List Symbol → Option ℕ
cutting_past o [] = o
cutting_past o (s ∷ ss) = cutting_past (next_cutting o (symbol_of s)) ss

-- 2. their symbols

same_number_at : (g : Numbering) (n : ℕ) (before : List ℕ) (c : ℕ) → number_base * (numbered_at g n before c).code + (numbered_at g n before c).count ≡ number_at g n before c
same_number_at by_place n before c = omega arith
same_number_at by_name n before c = refl

symbols_from : (g : Numbering) (key : ℕ) (l : List ℕ) (ss : List Symbol) (n : ℕ) (before : List ℕ) (o : Option ℕ) → map (child_symbol l) (wanted_from g key n before o ss) ≡ cut_on o (numbered g n before l (string_of ss))
symbols_from g key l [] n before None = refl
symbols_from g key l [] n before (Some b) = refl
symbols_from g key l (code.Push ∷ ss) n before None =
    (λ i. L.Push (l ++ same_number_at g n before 91 i ∷ []) ∷ symbols_from g key l ss (n + 1) (91 ∷ before) None i)
symbols_from g key l (code.Push ∷ ss) n before (Some zero) = symbols_from g key l ss (n + 1) (91 ∷ before) (Some 1)
symbols_from g key l (code.Push ∷ ss) n before (Some (suc b)) = symbols_from g key l ss (n + 1) (91 ∷ before) (Some (suc (suc b)))
symbols_from g key l (code.Pop ∷ ss) n before None =
    (λ i. L.Pop (l ++ same_number_at g n before 93 i ∷ []) ∷ symbols_from g key l ss (n + 1) (93 ∷ before) None i)
symbols_from g key l (code.Pop ∷ ss) n before (Some zero) =
    (λ i. L.Pop (l ++ same_number_at g n before 93 i ∷ []) ∷ symbols_from g key l ss (n + 1) (93 ∷ before) None i)
symbols_from g key l (code.Pop ∷ ss) n before (Some (suc b)) = symbols_from g key l ss (n + 1) (93 ∷ before) (Some b)
symbols_from g key l (code.Cut ∷ ss) n before None = symbols_from g key l ss (n + 1) (37 ∷ before) (Some 0)
symbols_from g key l (code.Cut ∷ ss) n before (Some zero) = symbols_from g key l ss (n + 1) (37 ∷ before) (Some 0)
symbols_from g key l (code.Cut ∷ ss) n before (Some (suc b)) = symbols_from g key l ss (n + 1) (37 ∷ before) (Some (suc b))
symbols_from g key l (code.Module v ∷ ss) n before None =
    let c = code_of (symbol_of (code.Module v)) in
    (λ i. L.Module (l ++ same_number_at g n before c i ∷ []) (record { name = module_name v.name; params = v.params }) ∷ symbols_from g key l ss (n + 1) (c ∷ before) None i)
symbols_from g key l (code.Module v ∷ ss) n before (Some zero) = symbols_from g key l ss (n + 1) (code_of (symbol_of (code.Module v)) ∷ before) (Some 0)
symbols_from g key l (code.Module v ∷ ss) n before (Some (suc b)) = symbols_from g key l ss (n + 1) (code_of (symbol_of (code.Module v)) ∷ before) (Some (suc b))

-- 3. what is being cut off after them

past_after : (ss : List Symbol) (o : Option ℕ) → cutting_past o ss ≡ cutting_after o (string_of ss)
past_after [] None = refl
past_after [] (Some b) = refl
past_after (code.Push ∷ ss) None = past_after ss None
past_after (code.Push ∷ ss) (Some b) = past_after ss (Some (suc b))
past_after (code.Pop ∷ ss) None = past_after ss None
past_after (code.Pop ∷ ss) (Some zero) = past_after ss None
past_after (code.Pop ∷ ss) (Some (suc b)) = past_after ss (Some b)
past_after (code.Cut ∷ ss) None = past_after ss (Some 0)
past_after (code.Cut ∷ ss) (Some zero) = past_after ss (Some 0)
past_after (code.Cut ∷ ss) (Some (suc b)) = past_after ss (Some (suc b))
past_after (code.Module v ∷ ss) None = past_after ss None
past_after (code.Module v ∷ ss) (Some zero) = past_after ss (Some 0)
past_after (code.Module v ∷ ss) (Some (suc b)) = past_after ss (Some (suc b))

pub open_past : (ss : List Symbol) → is_some (cutting_past None ss) ≡ is_open (string_of ss)
open_past ss = ap (λ o. is_some o) (past_after ss None)

-- 4. each of them

each_if : (P : Child → Type 0) (b : Bool) (w : Child) (ws : List Child) → (b ≡ true → P w) → Each P ws → Each P (child_if b w ++ ws)
each_if P true w ws h k = (h refl, k)
each_if P false w ws h k = k

keys_from : (g : Numbering) (key : ℕ) (ss : List Symbol) (n : ℕ) (before : List ℕ) (o : Option ℕ) → Each (λ w. w.key ≡ child_key_of key (child_number w)) (wanted_from g key n before o ss)
keys_from g key [] n before o = tt
keys_from g key (s ∷ ss) n before o =
    each_if (λ w. w.key ≡ child_key_of key (child_number w)) (symbol_stays o (symbol_of s)) (child_at g key n before s) _ (λ e. refl) (keys_from g key ss (n + 1) (code_of (symbol_of s) ∷ before) (next_cutting o (symbol_of s)))

count_few : (g : Numbering) (n : ℕ) (before : List ℕ) (c : ℕ) → length before ≡ n → (numbered_at g n before c).count ≤ n
count_few by_place n before c e = omega arith
count_few by_name n before c e = let few = count_by-le-length (λ d. d == c) before in omega (arith, few, e)

pub small_at : (g : Numbering) (n : ℕ) (before : List ℕ) (c : ℕ) → length before ≡ n → n < number_base → (numbered_at g n before c).count < number_base
small_at g n before c e l = omega (arith, count_few g n before c e, l)

small_from : (g : Numbering) (key : ℕ) (ss : List Symbol) (n : ℕ) (before : List ℕ) (o : Option ℕ) → length before ≡ n → n + length ss ≤ number_base → Each (λ w. w.number.count < number_base) (wanted_from g key n before o ss)
small_from g key [] n before o e l = tt
small_from g key (s ∷ ss) n before o e l =
    each_if (λ w. w.number.count < number_base) (symbol_stays o (symbol_of s)) (child_at g key n before s) _ (λ b. small_at g n before (code_of (symbol_of s)) e (omega (arith, l)))
    (small_from g key ss (n + 1) (code_of (symbol_of s) ∷ before) (next_cutting o (symbol_of s)) (omega (arith, e)) (omega (arith, l)))

no_cut : (o : Option ℕ) (s : Symbol) → symbol_stays o (symbol_of s) ≡ true → s ≢ code.Cut
no_cut None code.Push h e = cc
no_cut None code.Pop h e = cc
no_cut None code.Cut h e = cc
no_cut None (code.Module v) h e = cc
no_cut (Some zero) code.Push h e = cc
no_cut (Some zero) code.Pop h e = cc
no_cut (Some zero) code.Cut h e = cc
no_cut (Some zero) (code.Module v) h e = cc
no_cut (Some (suc b)) code.Push h e = cc
no_cut (Some (suc b)) code.Pop h e = cc
no_cut (Some (suc b)) code.Cut h e = cc
no_cut (Some (suc b)) (code.Module v) h e = cc

whole_if : (b : Bool) (w : Child) (ws : List Child) → (b ≡ true → w.symbol ≢ code.Cut) → AreWhole ws → AreWhole (child_if b w ++ ws)
whole_if true w ws h k = (h refl, k)
whole_if false w ws h k = k

whole_from : (g : Numbering) (key : ℕ) (ss : List Symbol) (n : ℕ) (before : List ℕ) (o : Option ℕ) → AreWhole (wanted_from g key n before o ss)
whole_from g key [] n before o = tt
whole_from g key (s ∷ ss) n before o = whole_if (symbol_stays o (symbol_of s)) (child_at g key n before s) _ (no_cut o s) (whole_from g key ss (n + 1) (code_of (symbol_of s) ∷ before) (next_cutting o (symbol_of s)))

few_if : (b : Bool) (w : Child) (ws : List Child) (k : ℕ) → length ws ≤ k → length (child_if b w ++ ws) ≤ suc k
few_if true w ws k h = omega (arith, h)
few_if false w ws k h = omega (arith, h)

few_from : (g : Numbering) (key : ℕ) (ss : List Symbol) (n : ℕ) (before : List ℕ) (o : Option ℕ) → length (wanted_from g key n before o ss) ≤ length (string_of ss)
few_from g key [] n before o = omega arith
few_from g key (s ∷ ss) n before o =
    few_if (symbol_stays o (symbol_of s)) (child_at g key n before s) _ (length (string_of ss)) (few_from g key ss (n + 1) (code_of (symbol_of s) ∷ before) (next_cutting o (symbol_of s)))

-- 5. no number comes twice

-- a number that may still come, after n symbols with these codes
abbrev MayCome : Numbering → ℕ → List ℕ → Number → Type 0
MayCome by_place n before q = n ≤ q.count
MayCome by_name n before q = count_by (λ d. d == q.code) before ≤ q.count

comes_now : (g : Numbering) (n : ℕ) (before : List ℕ) (c : ℕ) → MayCome g n before (numbered_at g n before c)
comes_now by_place n before c = omega arith
comes_now by_name n before c = omega arith

count_more : (c d : ℕ) (before : List ℕ) → count_by (λ e. e == d) before ≤ count_by (λ e. e == d) (c ∷ before)
count_more c d before = let step = sum_by-cons (λ e. cond (e == d) 1 0) c before in omega (arith, step)

comes_later : (g : Numbering) (n : ℕ) (before : List ℕ) (c : ℕ) (q : Number) → MayCome g (n + 1) (c ∷ before) q → MayCome g n before q
comes_later by_place n before c q h = omega (arith, h)
comes_later by_name n before c q h = omega (arith, h, count_more c q.code before)

all_come : (g : Numbering) (key : ℕ) (ss : List Symbol) (n : ℕ) (before : List ℕ) (o : Option ℕ) → Each (λ w. MayCome g n before w.number) (wanted_from g key n before o ss)
all_come g key [] n before o = tt
all_come g key (s ∷ ss) n before o =
    let c = code_of (symbol_of s) in
    each_if (λ w. MayCome g n before w.number) (symbol_stays o (symbol_of s)) (child_at g key n before s) _ (λ e. comes_now g n before c)
    (all_weaker _ _ _ (λ w h. comes_later g n before c w.number h) (all_come g key ss (n + 1) (c ∷ before) (next_cutting o (symbol_of s))))
  where
    all_weaker : (P Q : Child → Type 0) (ws : List Child) → ((w : Child) → P w → Q w) → Each P ws → Each Q ws
    all_weaker P Q [] f h = tt
    all_weaker P Q (w ∷ ws) f h = (f w h.0, all_weaker P Q ws f h.1)

gone_by : (g : Numbering) (n : ℕ) (before : List ℕ) (c : ℕ) (q : Number) → MayCome g (n + 1) (c ∷ before) q → same_child_number q (numbered_at g n before c) ≡ false
gone_by by_place n before c q h = by (nat_eq q.code 0) (nat_eq q.count n) refl
  where
    by : (a b : Bool) → nat_eq q.count n ≡ b → a && b ≡ false
    by false b e = refl
    by true false e = refl
    by true true e = let f : q.count ≡ n = eqb-true q.count n e in absurd (omega (arith, f, h))
gone_by by_name n before c q h = by (nat_eq q.code c) (nat_eq q.count (count_by (λ d. d == c) before)) refl refl
  where
    by : (a b : Bool) → nat_eq q.code c ≡ a → nat_eq q.count (count_by (λ d. d == c) before) ≡ b → a && b ≡ false
    by false b e f = refl
    by true false e f = refl
    by true true e f =
        let i : q.code ≡ c = eqb-true q.code c e in
        let j : q.count ≡ count_by (λ d. d == c) before = eqb-true q.count (count_by (λ d. d == c) before) f in
        let more : count_by (λ d. d == c) (c ∷ before) ≤ q.count = subst (λ k. count_by (λ d. d == k) (c ∷ before) ≤ q.count) i h in
        let step = sum_by-cons (λ d. cond (d == c) 1 0) c before in
        let one : cond {A = ℕ} (c == c) 1 0 ≡ 1 = grind (arith, common_steps) in
        absurd (omega (arith, j, more, one, step))

not_later : (g : Numbering) (n : ℕ) (before : List ℕ) (c : ℕ) (ws : List Child) → Each (λ w. MayCome g (n + 1) (c ∷ before) w.number) ws → has_number (numbers_of ws) (numbered_at g n before c) ≡ false
not_later g n before c [] h = refl
not_later g n before c (w ∷ ws) h = (λ i. gone_by g n before c w.number h.0 i || not_later g n before c ws h.1 i)

apart_if : (b : Bool) (w : Child) (ws : List Child) → has_number (numbers_of ws) w.number ≡ false → AreDifferent (numbers_of ws) → AreDifferent (numbers_of (child_if b w ++ ws))
apart_if true w ws h k = (h, k)
apart_if false w ws h k = k

apart_from : (g : Numbering) (key : ℕ) (ss : List Symbol) (n : ℕ) (before : List ℕ) (o : Option ℕ) → AreDifferent (numbers_of (wanted_from g key n before o ss))
apart_from g key [] n before o = tt
apart_from g key (s ∷ ss) n before o =
    let c = code_of (symbol_of s) in
    apart_if (symbol_stays o (symbol_of s)) (child_at g key n before s) _ (not_later g n before c _ (all_come g key ss (n + 1) (c ∷ before) (next_cutting o (symbol_of s))))
    (apart_from g key ss (n + 1) (c ∷ before) (next_cutting o (symbol_of s)))

-- 6. all of them

pub are_wanted : (g : Numbering) (key : ℕ) (ss : List Symbol) → length ss ≤ number_base → AreWanted g key (string_of ss) (wanted_from g key 0 [] None ss)
are_wanted g key ss l = record {
  symbols = λ lineage. symbols_from g key lineage ss 0 [] None;
  keys = keys_from g key ss 0 [] None;
  whole = whole_from g key ss 0 [] None;
  apart = apart_from g key ss 0 [] None;
  small = small_from g key ss 0 [] None refl (omega (arith, l));
  few = few_from g key ss 0 [] None;
}
