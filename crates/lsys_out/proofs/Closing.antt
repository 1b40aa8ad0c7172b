-- In what comes of the image of a balanced level each `]` ends a branch.
use Rattle.std.proofs.Common.{map, ◌≡◌, ℕ, zero, suc, ℤ, ◌+◌, ◌-◌, Bool, true, false, Result, Ok, Err, List, [], ◌∷◌, ◌++◌, length, refl, ap, sym, ◌∙◌, subst, arith, nat_lt, if◌then◌else◌}
use Rattle.std.proofs.lemmas.Bool.{eqb-true}
use Rattle.lsys_syntax.specs.Limits.{most_image_symbols}
use Rattle.lsys_syntax.specs.Tokens.{NameText}
use Rattle.lsys_syntax.specs.Strings as S
use Rattle.lsys_syntax.specs.Expressions.{Expr}
use Rattle.lsys_syntax.specs.Pieces.{IsWordText}
use Rattle.lsys_syntax.specs.Rules.{IsRule}
use Rattle.lsys_syntax.specs.Checks.{rule_formals}
use Rattle.lsys_syntax.specs.Commands.{IsHomomorphism}
use Rattle.lsys_spec.specs.Systems.{System, Homomorphism, Each, WellSpelled}
use Rattle.lsys_spec.specs.Values.{Arith, expr_tree, judged, ◌and_then◌}
use Rattle.lsys_spec.specs.Bodies.{body_of, templates}
use Rattle.lsys_spec.specs.Levels.{ModuleValue, LevelSymbol, Push, Pop, Module, level_balanced}
use Rattle.lsys_spec.specs.Meaning.{filled, filled_params}
use Rattle.lsys_spec.specs.Images.{ImageRefusal, ImageLimit, for_module, image_of, image_fault, within_image}
use Rattle.lsys_spec.proofs.LevelInduction.{ok_parts}
use Rattle.lsys_hom.specs.Coming.{Coming, coming_from, symbol_image, coming_with}
use Rattle.lsys_turtle.specs.Ways.{saved_after}
use Rattle.lsys_out.specs.Nesting.{CanEnd, Closes}

-- 1. the image of a module is balanced

-- a filled successor has the brackets that are written
filled_brackets : (fs : List NameText) (xs : List (S.Symbol Expr)) (bound : List ℤ) (ys : List (S.Symbol ℤ)) (n : ℕ) → filled (templates fs xs) bound ≡ Ok ys → S.balanced n ys ≡ S.balanced n xs
filled_brackets fs [] bound ys n h = let e : [] ≡ ys = cc in ap (S.balanced n) (sym e)
filled_brackets fs (S.Module m es ∷ xs) bound ys n h =
    let z = ok_parts (filled_params (map (expr_tree fs) es) bound) _ ys h in
    let r = ok_parts (filled (templates fs xs) bound) _ ys z.2 in
    let e : S.Module m z.0 ∷ r.0 ≡ ys = let i = r.2 in cc in ap (S.balanced n) (sym e) ∙ filled_brackets fs xs bound r.0 n r.1
filled_brackets fs (S.Push ∷ xs) bound ys n h =
    let r = ok_parts (filled (templates fs xs) bound) _ ys h in
    let e : S.Push ∷ r.0 ≡ ys = let i = r.2 in cc in ap (S.balanced n) (sym e) ∙ filled_brackets fs xs bound r.0 (suc n) r.1
filled_brackets fs (S.Pop ∷ xs) bound ys zero h =
    let r = ok_parts (filled (templates fs xs) bound) _ ys h in
    let e : S.Pop ∷ r.0 ≡ ys = let i = r.2 in cc in ap (S.balanced 0) (sym e)
filled_brackets fs (S.Pop ∷ xs) bound ys (suc n) h =
    let r = ok_parts (filled (templates fs xs) bound) _ ys h in
    let e : S.Pop ∷ r.0 ≡ ys = let i = r.2 in cc in ap (S.balanced (suc n)) (sym e) ∙ filled_brackets fs xs bound r.0 n r.1
filled_brackets fs (S.Cut ∷ xs) bound ys n h =
    let r = ok_parts (filled (templates fs xs) bound) _ ys h in
    let e : S.Cut ∷ r.0 ≡ ys = let i = r.2 in cc in ap (S.balanced n) (sym e) ∙ filled_brackets fs xs bound r.0 n r.1

-- the successors of these rules are balanced
abbrev HaveBalance : List Homomorphism → Type 0
HaveBalance hs = Each (λ h. S.balanced 0 h.rule.successor ≡ true) hs

spelled_balance : (s : System) → WellSpelled s → HaveBalance s.homomorphisms
spelled_balance s w = each s.homomorphisms w.homomorphisms
  where
    each : (hs : List Homomorphism) → Each (λ h. IsWordText h.label × IsRule h.rule × IsHomomorphism h.rule) hs → HaveBalance hs
    each [] h = tt
    each (x ∷ hs) h = (h.0.1.successor_balanced, each hs h.1)

-- the image by one rule, or by the others
tried_balanced : (x : Homomorphism) (m : ModuleValue) (ys : List (S.Symbol ℤ)) (others : Result (List (S.Symbol ℤ)) Arith) → S.balanced 0 x.rule.successor ≡ true → (others ≡ Ok ys → S.balanced 0 ys ≡ true)
    → (is : Bool) (r : Result Bool Arith) → (if is then (r and_then λ holds. if holds then filled (body_of x.rule).successor m.params else others) else others) ≡ Ok ys → S.balanced 0 ys ≡ true
tried_balanced x m ys others b h true (Ok true) e = filled_brackets (rule_formals x.rule) x.rule.successor m.params ys 0 e ∙ b
tried_balanced x m ys others b h true (Ok false) e = h e
tried_balanced x m ys others b h true (Err k) e = cc
tried_balanced x m ys others b h false r e = h e

image_balanced : (hs : List Homomorphism) (m : ModuleValue) (ys : List (S.Symbol ℤ)) → HaveBalance hs → image_of hs m ≡ Ok ys → S.balanced 0 ys ≡ true
image_balanced [] m ys b h = let e : S.Module m.name m.params ∷ [] ≡ ys = cc in ap (S.balanced 0) (sym e)
image_balanced (x ∷ hs) m ys b h = tried_balanced x m ys (image_of hs m) b.0 (image_balanced hs m ys b.1) (for_module m x) (judged (body_of x.rule).condition m.params) h

within_same : (k : ℕ) (zs ys : List (S.Symbol ℤ)) → within_image k zs ≡ Ok ys → zs ≡ ys
within_same k zs ys h = by (nat_lt most_image_symbols (k + length zs)) h
  where
    by : (over : Bool) → (if over then Err ImageLimit else Ok zs) ≡ Ok ys → zs ≡ ys
    by true e = cc
    by false e = cc

module_balanced : (hs : List Homomorphism) (n k : ℕ) (m : ModuleValue) (ys : List (S.Symbol ℤ)) → HaveBalance hs → (r : Result (List (S.Symbol ℤ)) Arith) → image_of hs m ≡ r
    → (image_fault (n + 1) r and_then within_image k) ≡ Ok ys → S.balanced 0 ys ≡ true
module_balanced hs n k m ys b (Ok zs) is h = subst (λ ys. S.balanced 0 ys ≡ true) (within_same k zs ys h) (image_balanced hs m zs b is)
module_balanced hs n k m ys b (Err e) is h = cc

-- 2. one symbol's image after another

closes_along : (k n : ℕ) (ys zs : List (S.Symbol ℤ)) → S.balanced k ys ≡ true → Closes n zs → Closes (k + n) (ys ++ zs)
closes_along k n [] zs b c = let e : k ≡ 0 = eqb-true k 0 b in let f : n ≡ k + n = omega (arith, e) in subst (λ m. Closes m zs) f c
closes_along k n (S.Module m ps ∷ ys) zs b c = (tt, closes_along k n ys zs b c)
closes_along k n (S.Cut ∷ ys) zs b c = (tt, closes_along k n ys zs b c)
closes_along k n (S.Push ∷ ys) zs b c = let e : suc k + n ≡ k + n + 1 = omega arith in (tt, subst (λ m. Closes m (ys ++ zs)) e (closes_along (suc k) n ys zs b c))
closes_along zero n (S.Pop ∷ ys) zs b c = cc
closes_along (suc k) n (S.Pop ∷ ys) zs b c = let e : k + n ≡ suc k + n - 1 = omega arith in (omega arith, subst (λ m. Closes m (ys ++ zs)) e (closes_along k n ys zs b c))

told_module : (n : ℕ) (r : Result (List (S.Symbol ℤ)) ImageRefusal) (f : ℕ → Coming) → ((ys : List (S.Symbol ℤ)) → r ≡ Ok ys → S.balanced 0 ys ≡ true) → ((j : ℕ) → Closes n (f j).symbols)
    → Closes n (coming_with r f).symbols
told_module n (Ok ys) f b c = let e : 0 + n ≡ n = omega arith in subst (λ m. Closes m (ys ++ (f (length ys)).symbols)) e (closes_along 0 n ys (f (length ys)).symbols (b ys refl) (c (length ys)))
told_module n (Err r) f b c = tt

-- a bracket that can end its branch, alone
told_bracket : (x : S.Symbol ℤ) (n k : ℕ) (f : ℕ → Coming) → CanEnd x n → ((j : ℕ) → Closes (saved_after x n) (f j).symbols) → Closes n (coming_with (within_image k (x ∷ [])) f).symbols
told_bracket x n k f e c = by (nat_lt most_image_symbols (k + 1))
  where
    by : (over : Bool) → Closes n (coming_with (if over then Err ImageLimit else Ok (x ∷ [])) f).symbols
    by true = tt
    by false = (e, c 1)

pub image_closes : (hs : List Homomorphism) (i k n : ℕ) (x : List LevelSymbol) → HaveBalance hs → level_balanced n x ≡ true → Closes n (coming_from hs i k x).symbols
image_closes hs i k n [] b l = tt
image_closes hs i k n (Push g ∷ x) b l = let e : suc n ≡ n + 1 = omega arith in told_bracket S.Push n k _ tt (λ j. subst (λ m. Closes m (coming_from hs i (k + j) x).symbols) e (image_closes hs i (k + j) (suc n) x b l))
image_closes hs i k zero (Pop g ∷ x) b l = cc
image_closes hs i k (suc n) (Pop g ∷ x) b l =
    let e : n ≡ suc n - 1 = omega arith in
    told_bracket S.Pop (suc n) k _ (omega arith) (λ j. subst (λ m. Closes m (coming_from hs i (k + j) x).symbols) e (image_closes hs i (k + j) n x b l))
image_closes hs i k n (Module g m ∷ x) b l =
    told_module n (symbol_image hs i k (Module g m)) _ (λ ys h. module_balanced hs i k m ys b (image_of hs m) refl h) (λ j. image_closes hs (i + 1) (k + j) n x b l)

pub last_closes : (s : System) (x : List LevelSymbol) → WellSpelled s → level_balanced 0 x ≡ true → Closes 0 (coming_from s.homomorphisms 0 0 x).symbols
last_closes s x w l = image_closes s.homomorphisms 0 0 0 x (spelled_balance s w) l
