-- What holds of the first level, and of the next level where it holds of one, holds of each level.
use Rattle.std.proofs.Common.{◌≡◌, ℕ, zero, suc, ◌+◌, Bool, true, false, cond, Some, Result, Ok, Err, List, [], ◌∷◌, ◌++◌, length, refl, sym, ap, ◌∙◌, subst, arith}
use Rattle.std.specs.Prelude.{slice_get, sum_by, nat_lt}
use Rattle.std.proofs.lemmas.List.{length_push}
use Rattle.lsys_spec.specs.Systems.{System}
use Rattle.lsys_spec.specs.Values.{Arith, ◌and_then◌}
use Rattle.lsys_spec.specs.Levels.{LevelSymbol}
use Rattle.lsys_spec.specs.Choice.{Fault, as_fault}
use Rattle.lsys_spec.specs.Meaning.{first_level, OverLimit, fault_at, next_level, within_limit, last_level, meaning_to}

-- 1. answers that are no fault

pub ok_parts : {A B E : Type 0} (r : Result A E) (f : A → Result B E) (b : B) → r and_then f ≡ Ok b → (a : A) × (r ≡ Ok a) × (f a ≡ Ok b)
ok_parts (Ok a) f b h = (a, refl, h)
ok_parts (Err e) f b h = cc

pub ok_as_fault : {A : Type 0} (r : Result A Arith) (a : A) → as_fault r ≡ Ok a → r ≡ Ok a
ok_as_fault (Ok b) a h = let e : b ≡ a = cc in ap (λ a. Ok a) e
ok_as_fault (Err e) a h = cc

pub ok_fault_at : {A : Type 0} (t n : ℕ) (r : Result A Fault) (a : A) → fault_at t n r ≡ Ok a → r ≡ Ok a
ok_fault_at t n (Ok b) a h = let e : b ≡ a = cc in ap (λ a. Ok a) e
ok_fault_at t n (Err e) a h = cc

-- 2. levels, the first of which is level t

abbrev pub AllAt : (ℕ → List LevelSymbol → Type 0) → ℕ → List (List LevelSymbol) → Type 0
AllAt P t [] = Unit {0}
AllAt P t (x ∷ xs) = P t x × AllAt P (suc t) xs

all_push : (P : ℕ → List LevelSymbol → Type 0) (t n : ℕ) (xs : List (List LevelSymbol)) (x : List LevelSymbol) → t + length xs ≡ n → AllAt P t xs → P n x → AllAt P t (xs ++ x ∷ [])
all_push P t n [] x e h g = let i : n ≡ t = omega (arith, e) in (subst (λ n. P n x) i g, tt)
all_push P t n (y ∷ xs) x e h g = (h.0, all_push P (suc t) n xs x (omega (arith, e)) h.1 g)

pub all_at : (P : ℕ → List LevelSymbol → Type 0) (t n : ℕ) (xs : List (List LevelSymbol)) (i : ℕ) (x : List LevelSymbol) → t + i ≡ n → AllAt P t xs → slice_get xs i ≡ Some x → P n x
all_at P t n [] i x e h g = cc
all_at P t n (y ∷ xs) zero x e h g = let a : y ≡ x = cc in let m : t ≡ n = omega (arith, e) in subst (P n) a (subst (λ n. P n y) m h.0)
all_at P t n (y ∷ xs) (suc i) x e h g = all_at P (suc t) n xs i x (omega (arith, e)) h.1 g

pub last_push : (xs : List (List LevelSymbol)) (x : List LevelSymbol) → last_level (xs ++ x ∷ []) ≡ x
last_push [] x = refl
last_push (y ∷ []) x = refl
last_push (y ∷ z ∷ xs) x = last_push (z ∷ xs) x

pub ok_within : (limit t : ℕ) (xs ys : List (List LevelSymbol)) → within_limit limit t xs ≡ Ok ys → xs ≡ ys
ok_within limit t xs ys h = by (nat_lt limit (sum_by length xs)) h
  where
    by : (b : Bool) → cond b (Err (OverLimit t)) (Ok xs) ≡ Ok ys → xs ≡ ys
    by true h = cc
    by false h = cc

pub record UpTo (P : ℕ → List LevelSymbol → Type 0) (n : ℕ) (xs : List (List LevelSymbol)) : Type 0 where
  pub all : AllAt P 0 xs
  pub count : length xs ≡ suc n
  pub latest : P n (last_level xs)

pub up_to : (s : System) (P : ℕ → List LevelSymbol → Type 0) → P 0 (first_level s) → ((t : ℕ) (x y : List LevelSymbol) → P t x → next_level s t x ≡ Ok y → P (suc t) y)
    → (limit n : ℕ) (xs : List (List LevelSymbol)) → meaning_to s limit n ≡ Ok xs → UpTo P n xs
up_to s P first next limit zero xs h =
    let e : first_level s ∷ [] ≡ xs = ok_within limit 0 (first_level s ∷ []) xs h in
    subst (UpTo P 0) e (record { all = (first, tt); count = refl; latest = first })
up_to s P first next limit (suc n) xs h =
    let before = ok_parts (meaning_to s limit n) _ xs h in
    let here = ok_parts (next_level s n (last_level before.0)) _ xs before.2 in
    let e : before.0 ++ here.0 ∷ [] ≡ xs = ok_within limit (suc n) (before.0 ++ here.0 ∷ []) xs here.2 in
    let r : UpTo P n before.0 = up_to s P first next limit n before.0 before.1 in
    let g : P (suc n) here.0 = next n (last_level before.0) here.0 r.latest here.1 in
    subst (UpTo P (suc n)) e (record {
      all = all_push P 0 (suc n) before.0 here.0 (omega (arith, r.count)) r.all g;
      count = length_push before.0 here.0 ∙ ap (λ n. n + 1) r.count ∙ omega arith;
      latest = subst (P (suc n)) (sym (last_push before.0 here.0)) g;
    })

pub at_each_level : (s : System) (P : ℕ → List LevelSymbol → Type 0) → P 0 (first_level s) → ((t : ℕ) (x y : List LevelSymbol) → P t x → next_level s t x ≡ Ok y → P (suc t) y)
    → (limit : ℕ) (xs : List (List LevelSymbol)) → meaning_to s limit s.depth ≡ Ok xs → (t : ℕ) (x : List LevelSymbol) → slice_get xs t ≡ Some x → P t x
at_each_level s P first next limit xs h t x g = all_at P 0 t xs t x (omega arith) (up_to s P first next limit s.depth xs h).all g
