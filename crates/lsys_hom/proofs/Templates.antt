-- The templates that are left to evaluate.
use Rattle.std.proofs.Common.{◌≡◌, suc, ℤ, Result, Ok, Err, List, [], ◌∷◌, ◌++◌, length, refl, ap, sym, ◌∙◌}
use Rattle.lsys_syntax.specs.Strings as S
use Rattle.lsys_spec.specs.Values.{Arith, Tree, ◌and_then◌}
use Rattle.lsys_spec.specs.Meaning.{filled, filled_params}
use Rattle.lsys_hom.specs.Parts.{AreFilled, fault_alone, or_none}

-- one symbol, and the others after it
abbrev pub in_front : {E : Type 0} → Result (List (S.Symbol ℤ)) E → Result (List (S.Symbol ℤ)) E → Result (List (S.Symbol ℤ)) E
in_front first more = first and_then λ xs. more and_then λ ys. Ok (xs ++ ys)

module_front : (n : S.ModuleName) (p : Result (List ℤ) Arith) (more : Result (List (S.Symbol ℤ)) Arith)
    → (p and_then λ zs. more and_then λ ys. Ok (S.Module n zs ∷ ys)) ≡ in_front (p and_then λ zs. Ok (S.Module n zs ∷ [])) more
module_front n (Ok zs) more = refl
module_front n (Err e) more = refl

-- a template, and then the others
pub filled_front : (t : S.Symbol Tree) (ts : List (S.Symbol Tree)) (bound : List ℤ) → filled (t ∷ ts) bound ≡ in_front (filled (t ∷ []) bound) (filled ts bound)
filled_front (S.Module n es) ts bound = module_front n (filled_params es bound) (filled ts bound)
filled_front S.Push ts bound = refl
filled_front S.Pop ts bound = refl
filled_front S.Cut ts bound = refl

-- the faults of what stands in front come first
front_whole : (first more : Result (List (S.Symbol ℤ)) Arith) → Ok tt ≡ fault_alone first → fault_alone (in_front first more) ≡ fault_alone more
front_whole (Ok xs) (Ok ys) h = refl
front_whole (Ok xs) (Err e) h = refl
front_whole (Err k) more h = absurd (cc)

front_fault : (first more : Result (List (S.Symbol ℤ)) Arith) (e : Arith) → Err e ≡ fault_alone first → Err e ≡ fault_alone (in_front first more)
front_fault (Ok xs) more e h = absurd (cc)
front_fault (Err k) more e h = h

pub fault_after : (t : S.Symbol Tree) (ts : List (S.Symbol Tree)) (bound : List ℤ) → Ok tt ≡ fault_alone (filled (t ∷ []) bound) → fault_alone (filled (t ∷ ts) bound) ≡ fault_alone (filled ts bound)
fault_after t ts bound h = ap fault_alone (filled_front t ts bound) ∙ front_whole (filled (t ∷ []) bound) (filled ts bound) h

pub fault_first : (t : S.Symbol Tree) (ts : List (S.Symbol Tree)) (bound : List ℤ) (e : Arith) → Err e ≡ fault_alone (filled (t ∷ []) bound) → Err e ≡ fault_alone (filled (t ∷ ts) bound)
fault_first t ts bound e h = front_fault (filled (t ∷ []) bound) (filled ts bound) e h ∙ ap fault_alone (sym (filled_front t ts bound))

-- a parameter, and those after it
pub params_after : (z : ℤ) (first : Result ℤ Arith) (more : Result (List ℤ) Arith) → Ok z ≡ first → fault_alone (first and_then λ y. more and_then λ ys. Ok (y ∷ ys)) ≡ fault_alone more
params_after z (Ok y) (Ok ys) h = refl
params_after z (Ok y) (Err e) h = refl
params_after z (Err k) more h = absurd (cc)

pub params_first : (e : Arith) (first : Result ℤ Arith) (more : Result (List ℤ) Arith) → Err e ≡ first → Err e ≡ fault_alone (first and_then λ y. more and_then λ ys. Ok (y ∷ ys))
params_first e (Ok y) more h = absurd (cc)
params_first e (Err k) more h = cc

-- one template is one symbol
pub data IsOne (r : Result (List (S.Symbol ℤ)) Arith) : Type 0 where
  one : (s : S.Symbol ℤ) → r ≡ Ok (s ∷ []) → IsOne r
  none : (k : Arith) → r ≡ Err k → IsOne r

module_one : (n : S.ModuleName) (p : Result (List ℤ) Arith) → IsOne (p and_then λ zs. Ok (S.Module n zs ∷ []))
module_one n (Ok zs) = one (S.Module n zs) refl
module_one n (Err k) = none k refl

pub filled_one : (t : S.Symbol Tree) (bound : List ℤ) → IsOne (filled (t ∷ []) bound)
filled_one (S.Module n es) bound = module_one n (filled_params es bound)
filled_one S.Push bound = one S.Push refl
filled_one S.Pop bound = one S.Pop refl
filled_one S.Cut bound = one S.Cut refl

-- the first template and those after it, none with a fault
pub record HasFirst (t : S.Symbol Tree) (ts : List (S.Symbol Tree)) (bound : List ℤ) : Type 0 where
  pub symbol : S.Symbol ℤ
  pub first : filled (t ∷ []) bound ≡ Ok (symbol ∷ [])
  pub others : AreFilled ts bound
  pub all : or_none (filled (t ∷ ts) bound) ≡ symbol ∷ or_none (filled ts bound)

has_first : (t : S.Symbol Tree) (ts : List (S.Symbol Tree)) (bound : List ℤ) (r : Result (List (S.Symbol ℤ)) Arith) → r ≡ filled ts bound → IsOne (filled (t ∷ []) bound)
    → AreFilled (t ∷ ts) bound → HasFirst t ts bound
has_first t ts bound (Ok ys) e (one s h) a = record {
  symbol = s;
  first = h;
  others = record { is = sym e ∙ ap (λ r. Ok (or_none r)) e };
  all = ap or_none (filled_front t ts bound ∙ ap (λ r. in_front r (filled ts bound)) h ∙ ap (in_front (Ok (s ∷ []))) (sym e)) ∙ ap (λ r. s ∷ or_none r) e;
}
has_first t ts bound (Err k) e (one s h) a = absurd (no_err (sym (filled_front t ts bound ∙ ap (λ r. in_front r (filled ts bound)) h ∙ ap (in_front (Ok (s ∷ []))) (sym e)) ∙ a.is))
  where
    no_err : {ys : List (S.Symbol ℤ)} {k : Arith} → Err k ≡ Ok ys → ⊥
    no_err e = cc
has_first t ts bound r e (none k h) a = absurd (no_err (sym (filled_front t ts bound ∙ ap (λ r. in_front r (filled ts bound)) h) ∙ a.is))
  where
    no_err : {ys : List (S.Symbol ℤ)} {k : Arith} → Err k ≡ Ok ys → ⊥
    no_err e = cc

pub first_of : (t : S.Symbol Tree) (ts : List (S.Symbol Tree)) (bound : List ℤ) → AreFilled (t ∷ ts) bound → HasFirst t ts bound
first_of t ts bound a = has_first t ts bound (filled ts bound) refl (filled_one t bound) a

-- as many symbols as templates
pub as_many : (ts : List (S.Symbol Tree)) (bound : List ℤ) → AreFilled ts bound → length (or_none (filled ts bound)) ≡ length ts
as_many [] bound a = refl
as_many (t ∷ ts) bound a = let h = first_of t ts bound a in ap length h.all ∙ ap suc (as_many ts bound h.others)
