-- What a cut leaves of a balanced part is balanced, whatever stands before it and after it; and children of a part are made for themselves.
use Rattle.std.proofs.Common.{◌≡◌, ℕ, zero, suc, ◌+◌, List, [], ◌∷◌, ◌++◌, length, refl, ap, sym, ◌∙◌, arith, true, append_assoc}
use Rattle.std.specs.Prelude.{ℤ, Option, Some, None, Result, Ok, Err}
use Rattle.lsys_syntax.specs.Strings as S
use Rattle.lsys_spec.specs.Systems.{System}
use Rattle.lsys_spec.specs.Values.{◌and_then◌}
use Rattle.lsys_spec.specs.Levels.{LevelSymbol, Push, Pop, Module, level_balanced}
use Rattle.lsys_spec.specs.Cuts.{Raw, Plain, Cut, raw_balanced, cut, cut_on}
use Rattle.lsys_syntax.specs.Commands.{Numbering}
use Rattle.lsys_spec.specs.LevelLaws.{HasBalance}
use Rattle.lsys_spec.specs.Meaning.{LevelRefusal, children, successor, fault_at, children_from, next_level}
use Rattle.lsys_spec.proofs.Cutting.{cut_balanced}
use Rattle.lsys_spec.proofs.Offspring.{offspring, offspring_balanced}
use Rattle.lsys_lattice.specs.Nodes.{cutting_after_part, modules_in, HasPartBelow}

-- 1. the cut of a part

pub cut-append : (c : Option ℕ) (x y : List Raw) → cut_on c (x ++ y) ≡ cut_on c x ++ cut_on (cutting_after_part c x) y
cut-append None [] y = refl
cut-append (Some n) [] y = refl
cut-append None (Cut l ∷ x) y = cut-append (Some 0) x y
cut-append None (Plain s ∷ x) y = ap (λ ss. s ∷ ss) (cut-append None x y)
cut-append (Some n) (Cut l ∷ x) y = cut-append (Some n) x y
cut-append (Some n) (Plain (Module l m) ∷ x) y = cut-append (Some n) x y
cut-append (Some n) (Plain (Push l) ∷ x) y = cut-append (Some (suc n)) x y
cut-append (Some zero) (Plain (Pop l) ∷ x) y = ap (λ ss. Pop l ∷ ss) (cut-append None x y)
cut-append (Some (suc n)) (Plain (Pop l) ∷ x) y = cut-append (Some n) x y

-- where a branch is being cut off that begins before the part, nothing of it is left
all_cut : (x : List Raw) (k n m : ℕ) → k + n ≡ m → raw_balanced k x ≡ true → cut_on (Some m) x ≡ []
all_cut [] k n m e h = refl
all_cut (Cut l ∷ x) k n m e h = all_cut x k n m e h
all_cut (Plain (Module l a) ∷ x) k n m e h = all_cut x k n m e h
all_cut (Plain (Push l) ∷ x) k n m e h = all_cut x (suc k) n (suc m) (omega arith) h
all_cut (Plain (Pop l) ∷ x) zero n m e h = cc
all_cut (Plain (Pop l) ∷ x) (suc k) n zero e h = absurd (omega arith)
all_cut (Plain (Pop l) ∷ x) (suc k) n (suc m) e h = all_cut x k n m (omega arith) h

pub part_balanced : (c : Option ℕ) (x : List Raw) → raw_balanced 0 x ≡ true → level_balanced 0 (cut_on c x) ≡ true
part_balanced None x h = cut_balanced x None 0 0 (omega arith) h
part_balanced (Some n) x h = let e = all_cut x 0 n n (omega arith) h in rw e refl

-- the middle of three parts
pub middle_part : (a x b : List Raw) → raw_balanced 0 x ≡ true
    → (c : Option ℕ) × (d : Option ℕ) × (cut_on None (a ++ (x ++ b)) ≡ cut_on None a ++ (cut_on c x ++ cut_on d b)) × (level_balanced 0 (cut_on c x) ≡ true)
middle_part a x b h =
    let c = cutting_after_part None a in
    (c, cutting_after_part c x, cut-append None a (x ++ b) ∙ ap (λ ss. cut_on None a ++ ss) (cut-append c x b), part_balanced c x h)

-- 2. the children of a part

abbrev joined : Result (List Raw) LevelRefusal → Result (List Raw) LevelRefusal → Result (List Raw) LevelRefusal
joined a b = a and_then λ u. b and_then λ v. Ok (u ++ v)

one_then : (rs : List Raw) (a b : Result (List Raw) LevelRefusal) → (joined a b and_then λ more. Ok (rs ++ more)) ≡ joined (a and_then λ more. Ok (rs ++ more)) b
one_then rs (Ok u) (Ok v) = ap Ok (sym (append_assoc rs u v))
one_then rs (Ok u) (Err e) = refl
one_then rs (Err e) b = refl

many_then : (o : Result (List (S.Symbol ℤ)) LevelRefusal) (g : Numbering) (l : List ℕ) (a b : Result (List Raw) LevelRefusal)
    → (o and_then λ ys. joined a b and_then λ more. Ok (children g l ys ++ more)) ≡ joined (o and_then λ ys. a and_then λ more. Ok (children g l ys ++ more)) b
many_then (Ok ys) g l a b = one_then (children g l ys) a b
many_then (Err e) g l a b = refl

none_then : (r : Result (List Raw) LevelRefusal) → r ≡ (r and_then λ v. Ok v)
none_then (Ok v) = refl
none_then (Err e) = refl

further : (p n : ℕ) → p + 1 + n ≡ p + suc n
further p n = omega arith

pub children-append : (s : System) (t : ℕ) (x : List LevelSymbol) (p n : ℕ) (u v : List LevelSymbol)
    → children_from s t x p n (u ++ v) ≡ joined (children_from s t x p n u) (children_from s t x (p + length u) (modules_in n u) v)
children-append s t x p n [] v = let e : p + 0 ≡ p = omega arith in rw e (none_then (children_from s t x p n v))
children-append s t x p n (Push l ∷ u) v =
    ap (λ r. r and_then λ more. Ok (children s.numbering l (S.Push ∷ []) ++ more)) (children-append s t x (p + 1) n u v)
    ∙ one_then (children s.numbering l (S.Push ∷ [])) (children_from s t x (p + 1) n u) (children_from s t x (p + 1 + length u) (modules_in n u) v)
    ∙ ap (λ (q : ℕ). joined (children_from s t x p n (Push l ∷ u)) (children_from s t x q (modules_in n u) v)) (further p (length u))
children-append s t x p n (Pop l ∷ u) v =
    ap (λ r. r and_then λ more. Ok (children s.numbering l (S.Pop ∷ []) ++ more)) (children-append s t x (p + 1) n u v)
    ∙ one_then (children s.numbering l (S.Pop ∷ [])) (children_from s t x (p + 1) n u) (children_from s t x (p + 1 + length u) (modules_in n u) v)
    ∙ ap (λ (q : ℕ). joined (children_from s t x p n (Pop l ∷ u)) (children_from s t x q (modules_in n u) v)) (further p (length u))
children-append s t x p n (Module l m ∷ u) v =
    ap (λ r. fault_at t (n + 1) (successor s t x p l m) and_then λ ys. r and_then λ more. Ok (children s.numbering l ys ++ more)) (children-append s t x (p + 1) (n + 1) u v)
    ∙ many_then (fault_at t (n + 1) (successor s t x p l m)) s.numbering l (children_from s t x (p + 1) (n + 1) u) (children_from s t x (p + 1 + length u) (modules_in (n + 1) u) v)
    ∙ ap (λ (q : ℕ). joined (children_from s t x p n (Module l m ∷ u)) (children_from s t x q (modules_in (n + 1) u) v)) (further p (length u))

-- 3. the next level

both_ok : (a b : Result (List Raw) LevelRefusal) (z : List Raw) → joined a b ≡ Ok z → (u : List Raw) × (v : List Raw) × (a ≡ Ok u) × (b ≡ Ok v) × (z ≡ u ++ v)
both_ok (Ok u) (Ok v) z h = let e : u ++ v ≡ z = cc in (u, v, refl, refl, sym e)
both_ok (Ok u) (Err e) z h = cc
both_ok (Err e) b z h = cc

cut_ok : (r : Result (List Raw) LevelRefusal) (y : List LevelSymbol) → (r and_then λ raws. Ok (cut raws)) ≡ Ok y → (raws : List Raw) × (r ≡ Ok raws) × (cut raws ≡ y)
cut_ok (Ok raws) y h = let e : cut raws ≡ y = cc in (raws, refl, e)
cut_ok (Err e) y h = cc

pub part_below : (s : System) → HasBalance s → (t : ℕ) (before part after y : List LevelSymbol) → level_balanced 0 part ≡ true → next_level s t (before ++ (part ++ after)) ≡ Ok y
    → HasPartBelow s t before part after y
part_below s b t before part after y balance h =
    let x : List LevelSymbol = before ++ (part ++ after) in
    let k : ℕ = length before in
    let n : ℕ = modules_in 0 before in
    let from_none : k ≡ 0 + k = omega arith in
    let all = cut_ok (children_from s t x 0 0 x) y h in
    let outer = both_ok (children_from s t x 0 0 before) (children_from s t x k n (part ++ after)) all.0 (ap (λ (q : ℕ). joined (children_from s t x 0 0 before) (children_from s t x q n (part ++ after))) from_none ∙ sym (children-append s t x 0 0 before (part ++ after)) ∙ all.1) in
    let inner = both_ok (children_from s t x k n part) (children_from s t x (k + length part) (modules_in n part) after) outer.1 (sym (children-append s t x k n part after) ∙ outer.3) in
    let raw : List Raw = inner.0 in
    let whole : raw_balanced 0 raw ≡ true = offspring_balanced s.numbering part raw 0 (offspring s b t x k n part raw inner.2) balance in
    let middle = middle_part outer.0 raw inner.1 whole in
    record {
      raw = raw;
      children = inner.2;
      cutting = middle.0;
      left = cut_on None outer.0;
      right = cut_on middle.1 inner.1;
      is = sym all.2 ∙ ap (cut_on None) (outer.4 ∙ ap (λ z. outer.0 ++ z) inner.4) ∙ middle.2;
      balanced = middle.3;
    }
