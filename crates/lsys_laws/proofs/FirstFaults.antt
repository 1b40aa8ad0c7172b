-- The first fault from the left: of parameters, of a successor, and of a value.
use Rattle.std.proofs.Common.{◌≡◌, Bool, true, false, Result, Ok, Err, List, [], ◌∷◌, ◌++◌, refl, ap, ◌∙◌, sym, append_assoc, ℤ, ◌⊎◌, inl, inr}
use Rattle.std.specs.Prelude.{◌↔◌, neg_ℤ, not}
use Rattle.lsys_syntax.specs.Strings as S
use Rattle.lsys_spec.specs.Systems.{Each}
use Rattle.lsys_spec.specs.Values.{Tree, Negation, Inversion, Binary, Both, Either, Operator, Arith, exact, is_zero, truth, applied, ◌and_then◌, unless_zero, unless_true, value}
use Rattle.lsys_spec.specs.Meaning.{filled_params, filled}
use Rattle.lsys_spec.proofs.Eachs.{each_append}
use Rattle.lsys_laws.specs.Faults.{HasValue, IsFirstFault, all_params}

-- where the first has a value, the fault is the first of what follows
later : (bound : List ℤ) (t : Tree) (ts : List Tree) (e : Arith) → HasValue bound t → IsFirstFault bound ts e → IsFirstFault bound (t ∷ ts) e
later bound t ts e v f = record {
  before = t ∷ f.before;
  faulty = f.faulty;
  after = f.after;
  all = ap (λ l. t ∷ l) f.all;
  fine = (v, f.fine);
  fails = f.fails;
}

at_first : (bound : List ℤ) (t : Tree) (ts : List Tree) (e : Arith) → value t bound ≡ Err e → IsFirstFault bound (t ∷ ts) e
at_first bound t ts e h = record { before = []; faulty = t; after = ts; all = refl; fine = tt; fails = h }

-- the fault of a step, or of what follows it
step_fault : {A B : Type 0} (r : Result A Arith) (f : A → Result B Arith) (e : Arith) → (r and_then f) ≡ Err e → (r ≡ Err e) ⊎ ((x : A) × (r ≡ Ok x) × (f x ≡ Err e))
step_fault (Ok x) f e h = inr (x, refl, h)
step_fault (Err k) f e h = inl cc

fault_first : {A B : Type 0} (r : Result A Arith) (f : A → Result B Arith) (e : Arith) → r ≡ Err e → (r and_then f) ≡ Err e
fault_first (Ok x) f e h = cc
fault_first (Err k) f e h = cc

fault_later : {A B : Type 0} (r : Result A Arith) (f : A → Result B Arith) (e : Arith) (x : A) → r ≡ Ok x → f x ≡ Err e → (r and_then f) ≡ Err e
fault_later r f e x h k = ap (λ q. q and_then f) h ∙ k

-- 1. parameters

-- what is made of values has no fault
abbrev made : {A : Type 0} → A → Result A Arith
made x = Ok x

never : {A : Type 0} (x : A) (e : Arith) → made x ≡ Err e → ⊥
never x e h = cc

-- the fault of what is then made into something
inner_fault : {A B : Type 0} (r : Result A Arith) (f : A → B) (e : Arith) → (r and_then λ x. made (f x)) ≡ Err e → r ≡ Err e
inner_fault (Ok x) f e h = absurd (never (f x) e h)
inner_fault (Err k) f e h = cc

params_fault : (ts : List Tree) (bound : List ℤ) (e : Arith) → filled_params ts bound ≡ Err e → IsFirstFault bound ts e
params_fault [] bound e h = cc
params_fault (t ∷ ts) bound e h = by (step_fault (value t bound) (λ z. filled_params ts bound and_then λ zs. Ok (z ∷ zs)) e h) (params_fault ts bound e)
  where
    by : (value t bound ≡ Err e) ⊎ ((z : ℤ) × (value t bound ≡ Ok z) × ((filled_params ts bound and_then λ zs. Ok (z ∷ zs)) ≡ Err e))
        → (filled_params ts bound ≡ Err e → IsFirstFault bound ts e) → IsFirstFault bound (t ∷ ts) e
    by (inl k) ih = at_first bound t ts e k
    by (inr k) ih = later bound t ts e (k.0, k.1) (ih (inner_fault (filled_params ts bound) (λ zs. k.0 ∷ zs) e k.2))

-- a fault after trees that have values
params_fail : (front back : List Tree) (t : Tree) (bound : List ℤ) (e : Arith) → Each (HasValue bound) front → value t bound ≡ Err e → filled_params (front ++ t ∷ back) bound ≡ Err e
params_fail [] back t bound e v h = fault_first (value t bound) (λ z. filled_params back bound and_then λ zs. made (z ∷ zs)) e h
params_fail (u ∷ front) back t bound e v h =
    fault_later (value u bound) (λ z. filled_params (front ++ t ∷ back) bound and_then λ zs. made (z ∷ zs)) e v.0.0 v.0.1
    (fault_first (filled_params (front ++ t ∷ back) bound) (λ zs. made (v.0.0 ∷ zs)) e (params_fail front back t bound e v.1 h))

pub params_first : (ts : List Tree) (bound : List ℤ) (e : Arith) → (filled_params ts bound ≡ Err e) ↔ IsFirstFault bound ts e
params_first ts bound e = (
  params_fault ts bound e,
  λ f. ap (λ l. filled_params l bound) f.all ∙ params_fail f.before f.after f.faulty bound e f.fine f.fails,
)

-- 2. a successor

params_done : (ts : List Tree) (bound zs : List ℤ) → filled_params ts bound ≡ Ok zs → Each (HasValue bound) ts
params_done [] bound zs h = tt
params_done (t ∷ ts) bound zs h = by (value t bound) refl h (params_done ts bound)
  where
    rest : (z : ℤ) (r : Result (List ℤ) Arith) → filled_params ts bound ≡ r → (r and_then λ vs. made (z ∷ vs)) ≡ Ok zs
        → ((vs : List ℤ) → filled_params ts bound ≡ Ok vs → Each (HasValue bound) ts) → Each (HasValue bound) ts
    rest z (Ok vs) e k ih = ih vs e
    rest z (Err m) e k ih = cc

    by : (r : Result ℤ Arith) → value t bound ≡ r → (r and_then λ z. filled_params ts bound and_then λ vs. made (z ∷ vs)) ≡ Ok zs
        → ((vs : List ℤ) → filled_params ts bound ≡ Ok vs → Each (HasValue bound) ts) → Each (HasValue bound) (t ∷ ts)
    by (Ok z) e k ih = ((z, e), rest z (filled_params ts bound) refl k ih)
    by (Err m) e k ih = cc

params_all : (ts : List Tree) (bound : List ℤ) → Each (HasValue bound) ts → (zs : List ℤ) × (filled_params ts bound ≡ Ok zs)
params_all [] bound h = ([], refl)
params_all (t ∷ ts) bound h =
    let r = params_all ts bound h.1 in
    (h.0.0 ∷ r.0, ap (λ v. v and_then λ z. filled_params ts bound and_then λ zs. made (z ∷ zs)) h.0.1 ∙ ap (λ v. v and_then λ zs. made (h.0.0 ∷ zs)) r.1)

-- a fault among the first trees, or among those after them
among_first : (bound : List ℤ) (ts us : List Tree) (e : Arith) → IsFirstFault bound ts e → IsFirstFault bound (ts ++ us) e
among_first bound ts us e f = record {
  before = f.before;
  faulty = f.faulty;
  after = f.after ++ us;
  all = ap (λ l. l ++ us) f.all ∙ append_assoc f.before (f.faulty ∷ f.after) us;
  fine = f.fine;
  fails = f.fails;
}

among_later : (bound : List ℤ) (ts us : List Tree) (e : Arith) → Each (HasValue bound) ts → IsFirstFault bound us e → IsFirstFault bound (ts ++ us) e
among_later bound ts us e h f = record {
  before = ts ++ f.before;
  faulty = f.faulty;
  after = f.after;
  all = ap (λ l. ts ++ l) f.all ∙ sym (append_assoc ts f.before (f.faulty ∷ f.after));
  fine = each_append (HasValue bound) ts f.before h f.fine;
  fails = f.fails;
}

successor_fault : (xs : List (S.Symbol Tree)) (bound : List ℤ) (e : Arith) → filled xs bound ≡ Err e → IsFirstFault bound (all_params xs) e
successor_fault [] bound e h = cc
successor_fault (S.Push ∷ xs) bound e h = successor_fault xs bound e (inner_fault (filled xs bound) (λ ys. S.Push ∷ ys) e h)
successor_fault (S.Pop ∷ xs) bound e h = successor_fault xs bound e (inner_fault (filled xs bound) (λ ys. S.Pop ∷ ys) e h)
successor_fault (S.Cut ∷ xs) bound e h = successor_fault xs bound e (inner_fault (filled xs bound) (λ ys. S.Cut ∷ ys) e h)
successor_fault (S.Module n ts ∷ xs) bound e h =
    by (step_fault (filled_params ts bound) (λ zs. filled xs bound and_then λ ys. made (S.Module n zs ∷ ys)) e h) (successor_fault xs bound e)
  where
    by : (filled_params ts bound ≡ Err e) ⊎ ((zs : List ℤ) × (filled_params ts bound ≡ Ok zs) × ((filled xs bound and_then λ ys. made (S.Module n zs ∷ ys)) ≡ Err e))
        → (filled xs bound ≡ Err e → IsFirstFault bound (all_params xs) e) → IsFirstFault bound (ts ++ all_params xs) e
    by (inl k) ih = among_first bound ts (all_params xs) e (params_fault ts bound e k)
    by (inr k) ih = among_later bound ts (all_params xs) e (params_done ts bound k.0 k.1) (ih (inner_fault (filled xs bound) (λ ys. S.Module n k.0 ∷ ys) e k.2))

-- all have values, or the first fault
data Split (bound : List ℤ) (ts : List Tree) : Type 0 where
  all_fine : Each (HasValue bound) ts → Split bound ts
  one_fails : (k : Arith) → filled_params ts bound ≡ Err k → Split bound ts

split : (bound : List ℤ) (ts : List Tree) → Split bound ts
split bound ts = by (filled_params ts bound) refl
  where
    by : (r : Result (List ℤ) Arith) → filled_params ts bound ≡ r → Split bound ts
    by (Ok zs) e = all_fine (params_done ts bound zs e)
    by (Err k) e = one_fails k e

one_fault : {A : Type 0} (r : Result A Arith) (e k : Arith) → r ≡ Err e → r ≡ Err k → k ≡ e
one_fault r e k h g = cc

-- after trees that have values a fault is one of the rest
after_values : (us ts : List Tree) (bound : List ℤ) (e : Arith) → Each (HasValue bound) ts → filled_params (ts ++ us) bound ≡ Err e → filled_params us bound ≡ Err e
after_values us [] bound e v h = h
after_values us (t ∷ ts) bound e v h =
    after_values us ts bound e v.1
    (inner_fault (filled_params (ts ++ us) bound) (λ zs. v.0.0 ∷ zs) e (ap (λ r. r and_then λ z. filled_params (ts ++ us) bound and_then λ zs. made (z ∷ zs)) (sym v.0.1) ∙ h))

-- so what all parameters tell, the successor tells
successor_fails : (xs : List (S.Symbol Tree)) (bound : List ℤ) (e : Arith) → filled_params (all_params xs) bound ≡ Err e → filled xs bound ≡ Err e
successor_fails [] bound e h = cc
successor_fails (S.Push ∷ xs) bound e h = fault_first (filled xs bound) (λ ys. made (S.Push ∷ ys)) e (successor_fails xs bound e h)
successor_fails (S.Pop ∷ xs) bound e h = fault_first (filled xs bound) (λ ys. made (S.Pop ∷ ys)) e (successor_fails xs bound e h)
successor_fails (S.Cut ∷ xs) bound e h = fault_first (filled xs bound) (λ ys. made (S.Cut ∷ ys)) e (successor_fails xs bound e h)
successor_fails (S.Module n ts ∷ xs) bound e h = by (split bound ts) (successor_fails xs bound e)
  where
    by : Split bound ts → (filled_params (all_params xs) bound ≡ Err e → filled xs bound ≡ Err e) → filled (S.Module n ts ∷ xs) bound ≡ Err e
    by (one_fails k g) ih =
        let first : IsFirstFault bound (ts ++ all_params xs) k = among_first bound ts (all_params xs) k (params_fault ts bound k g) in
        let same : k ≡ e = one_fault (filled_params (ts ++ all_params xs) bound) e k h ((params_first (ts ++ all_params xs) bound k).1 first) in
        fault_first (filled_params ts bound) (λ zs. filled xs bound and_then λ ys. made (S.Module n zs ∷ ys)) e (g ∙ ap (λ a. Err a) same)
    by (all_fine v) ih =
        let zs = params_all ts bound v in
        fault_later (filled_params ts bound) (λ zs. filled xs bound and_then λ ys. made (S.Module n zs ∷ ys)) e zs.0 zs.1
        (fault_first (filled xs bound) (λ ys. made (S.Module n zs.0 ∷ ys)) e (ih (after_values (all_params xs) ts bound e v h)))

pub successor_first : (xs : List (S.Symbol Tree)) (bound : List ℤ) (e : Arith) → (filled xs bound ≡ Err e) ↔ IsFirstFault bound (all_params xs) e
successor_first xs bound e = (
  successor_fault xs bound e,
  λ f. successor_fails xs bound e ((params_first (all_params xs) bound e).1 f),
)

-- 3. a value

pub negation_first : (t : Tree) (bound : List ℤ) (e : Arith) → (value (Negation t) bound ≡ Err e) ↔ ((value t bound ≡ Err e) ⊎ ((x : ℤ) × (value t bound ≡ Ok x) × (exact (neg_ℤ x) ≡ Err e)))
negation_first t bound e = (step_fault (value t bound) (λ x. exact (neg_ℤ x)) e, back)
  where
    back : (value t bound ≡ Err e) ⊎ ((x : ℤ) × (value t bound ≡ Ok x) × (exact (neg_ℤ x) ≡ Err e)) → value (Negation t) bound ≡ Err e
    back (inl h) = fault_first (value t bound) (λ x. exact (neg_ℤ x)) e h
    back (inr h) = fault_later (value t bound) (λ x. exact (neg_ℤ x)) e h.0 h.1 h.2

abbrev Applied : Operator → Tree → Tree → List ℤ → Arith → Type 0
Applied op t u bound e = (x : ℤ) × (y : ℤ) × (value t bound ≡ Ok x) × (value u bound ≡ Ok y) × (applied op x y ≡ Err e)

binary_fault : (op : Operator) (t u : Tree) (bound : List ℤ) (e : Arith) → value (Binary op t u) bound ≡ Err e → IsFirstFault bound (t ∷ u ∷ []) e ⊎ Applied op t u bound e
binary_fault op t u bound e h = by (step_fault (value t bound) (λ x. value u bound and_then λ y. applied op x y) e h)
  where
    second : (x : ℤ) → value t bound ≡ Ok x → (value u bound ≡ Err e) ⊎ ((y : ℤ) × (value u bound ≡ Ok y) × (applied op x y ≡ Err e)) → IsFirstFault bound (t ∷ u ∷ []) e ⊎ Applied op t u bound e
    second x k (inl m) = inl (later bound t (u ∷ []) e (x, k) (at_first bound u [] e m))
    second x k (inr m) = inr (x, m.0, k, m.1, m.2)

    by : (value t bound ≡ Err e) ⊎ ((x : ℤ) × (value t bound ≡ Ok x) × ((value u bound and_then λ y. applied op x y) ≡ Err e)) → IsFirstFault bound (t ∷ u ∷ []) e ⊎ Applied op t u bound e
    by (inl k) = inl (at_first bound t (u ∷ []) e k)
    by (inr k) = second k.0 k.1 (step_fault (value u bound) (λ y. applied op k.0 y) e k.2)

-- two operands, of which one has a fault, as two parameters
binary_params : (op : Operator) (t u : Tree) (bound : List ℤ) (e : Arith) → filled_params (t ∷ u ∷ []) bound ≡ Err e → value (Binary op t u) bound ≡ Err e
binary_params op t u bound e h = by (value t bound) (value u bound) h
  where
    by : (r q : Result ℤ Arith) → (r and_then λ z. (q and_then λ y. made [] and_then λ zs. made (y ∷ zs)) and_then λ zs. made (z ∷ zs)) ≡ Err e → (r and_then λ x. q and_then λ y. applied op x y) ≡ Err e
    by (Ok x) (Ok y) k = absurd (never (x ∷ y ∷ []) e k)
    by (Ok x) (Err m) k = cc
    by (Err m) q k = cc

pub binary_first : (op : Operator) (t u : Tree) (bound : List ℤ) (e : Arith) → (value (Binary op t u) bound ≡ Err e) ↔ (IsFirstFault bound (t ∷ u ∷ []) e ⊎ Applied op t u bound e)
binary_first op t u bound e = (binary_fault op t u bound e, back)
  where
    back : IsFirstFault bound (t ∷ u ∷ []) e ⊎ Applied op t u bound e → value (Binary op t u) bound ≡ Err e
    back (inl f) = binary_params op t u bound e ((params_first (t ∷ u ∷ []) bound e).1 f)
    back (inr f) =
        fault_later (value t bound) (λ x. value u bound and_then λ y. applied op x y) e f.0 f.2
        (fault_later (value u bound) (λ y. applied op f.0 y) e f.1 f.3 f.4)

-- the right side of && is evaluated where the left isn't 0, and that of || where it is
abbrev Right : Bool → Tree → Tree → List ℤ → Arith → Type 0
Right zero t u bound e = (x : ℤ) × (value t bound ≡ Ok x) × (is_zero x ≡ zero) × (value u bound ≡ Err e)

pub both_first : (t u : Tree) (bound : List ℤ) (e : Arith) → (value (Both t u) bound ≡ Err e) ↔ ((value t bound ≡ Err e) ⊎ Right false t u bound e)
both_first t u bound e = (λ h. by (step_fault (value t bound) (λ x. unless_zero (is_zero x) (value u bound)) e h), back)
  where
    at_zero : (x : ℤ) (b : Bool) → is_zero x ≡ b → value t bound ≡ Ok x → unless_zero b (value u bound) ≡ Err e → Right false t u bound e
    at_zero x true z k h = absurd (never (truth false) e h)
    at_zero x false z k h = (x, k, z, inner_fault (value u bound) (λ y. truth (not (is_zero y))) e h)

    by : (value t bound ≡ Err e) ⊎ ((x : ℤ) × (value t bound ≡ Ok x) × (unless_zero (is_zero x) (value u bound) ≡ Err e)) → (value t bound ≡ Err e) ⊎ Right false t u bound e
    by (inl k) = inl k
    by (inr k) = inr (at_zero k.0 (is_zero k.0) refl k.1 k.2)

    back : (value t bound ≡ Err e) ⊎ Right false t u bound e → value (Both t u) bound ≡ Err e
    back (inl k) = fault_first (value t bound) (λ x. unless_zero (is_zero x) (value u bound)) e k
    back (inr k) =
        fault_later (value t bound) (λ x. unless_zero (is_zero x) (value u bound)) e k.0 k.1
        (ap (λ b. unless_zero b (value u bound)) k.2 ∙ fault_first (value u bound) (λ y. made (truth (not (is_zero y)))) e k.3)

pub either_first : (t u : Tree) (bound : List ℤ) (e : Arith) → (value (Either t u) bound ≡ Err e) ↔ ((value t bound ≡ Err e) ⊎ Right true t u bound e)
either_first t u bound e = (λ h. by (step_fault (value t bound) (λ x. unless_true (is_zero x) (value u bound)) e h), back)
  where
    at_zero : (x : ℤ) (b : Bool) → is_zero x ≡ b → value t bound ≡ Ok x → unless_true b (value u bound) ≡ Err e → Right true t u bound e
    at_zero x false z k h = absurd (never (truth true) e h)
    at_zero x true z k h = (x, k, z, inner_fault (value u bound) (λ y. truth (not (is_zero y))) e h)

    by : (value t bound ≡ Err e) ⊎ ((x : ℤ) × (value t bound ≡ Ok x) × (unless_true (is_zero x) (value u bound) ≡ Err e)) → (value t bound ≡ Err e) ⊎ Right true t u bound e
    by (inl k) = inl k
    by (inr k) = inr (at_zero k.0 (is_zero k.0) refl k.1 k.2)

    back : (value t bound ≡ Err e) ⊎ Right true t u bound e → value (Either t u) bound ≡ Err e
    back (inl k) = fault_first (value t bound) (λ x. unless_true (is_zero x) (value u bound)) e k
    back (inr k) =
        fault_later (value t bound) (λ x. unless_true (is_zero x) (value u bound)) e k.0 k.1
        (ap (λ b. unless_true b (value u bound)) k.2 ∙ fault_first (value u bound) (λ y. made (truth (not (is_zero y)))) e k.3)

pub inversion_first : (t : Tree) (bound : List ℤ) (e : Arith) → (value (Inversion t) bound ≡ Err e) ↔ (value t bound ≡ Err e)
inversion_first t bound e = (inner_fault (value t bound) (λ x. truth (is_zero x)) e, fault_first (value t bound) (λ x. made (truth (is_zero x))) e)
