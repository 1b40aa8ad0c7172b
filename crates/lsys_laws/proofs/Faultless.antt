-- The questions of a system with levels are no faults.
use Rattle.std.proofs.Common.{◌≡◌, ℕ, zero, suc, ◌+◌, ◌<◌, ◌≤◌, ◌⊎◌, inl, inr, Some, Result, Ok, Bool, true, false, cond, ◌==◌, ◌&&◌, List, [], ◌∷◌, ◌++◌, length, refl, ap, sym, ◌∙◌, subst, arith}
use Rattle.std.specs.Prelude.{ℤ, slice_get}
use Rattle.std.proofs.lemmas.Bool.{cases_lt}
use Rattle.std.proofs.lemmas.List.{length_push}
use Rattle.lsys_syntax.specs.Strings as S
use Rattle.lsys_spec.specs.Systems.{System, Each}
use Rattle.lsys_spec.specs.Bodies.{Body, group}
use Rattle.lsys_spec.specs.Levels.{ModuleValue, LevelSymbol, Push, Pop, Module, lineage}
use Rattle.lsys_spec.specs.Choice.{Fault}
use Rattle.lsys_spec.specs.Cuts.{Raw}
use Rattle.lsys_spec.specs.Meaning.{successor, fault_at, children_from, first_level, next_level, last_level, meaning_to}
use Rattle.lsys_spec.specs.Equalities.{same_lineage}
use Rattle.lsys_spec.specs.Questions.{Question, question, where_any, questions_from, questions_below, questions, question_at}
use Rattle.lsys_spec.proofs.LevelInduction.{ok_parts, ok_fault_at, ok_within}
use Rattle.lsys_spec.proofs.Eachs.{each_append}

-- 1. each question is of a level below the last

abbrev pub IsBelow : ℕ → Question → Type 0
IsBelow n q = q.level + 1 < n

any_below : (n : ℕ) (bs : List Body) (q : Question) (qs : List Question) → IsBelow n q → Each (IsBelow n) qs → Each (IsBelow n) (where_any bs q qs)
any_below n [] q qs h k = k
any_below n (b ∷ bs) q qs h k = (h, k)

below_from : (n : ℕ) (s : System) (t : ℕ) (x : List LevelSymbol) → t + 1 < n → (p : ℕ) (rest : List LevelSymbol) → Each (IsBelow n) (questions_from s t x p rest)
below_from n s t x h p [] = tt
below_from n s t x h p (Push l ∷ rest) = below_from n s t x h (p + 1) rest
below_from n s t x h p (Pop l ∷ rest) = below_from n s t x h (p + 1) rest
below_from n s t x h p (Module l m ∷ rest) =
    let bs : List Body = group s t m.name (length m.params) in any_below n bs (question s t bs x p l m) (questions_from s t x (p + 1) rest) h (below_from n s t x h (p + 1) rest)

pub below : (n : ℕ) (s : System) (t : ℕ) (xs : List (List LevelSymbol)) → t + length xs ≡ n → Each (IsBelow n) (questions_below s t xs)
below n s t [] e = tt
below n s t (x ∷ []) e = tt
below n s t (x ∷ y ∷ xs) e = each_append (IsBelow n) (questions_from s t x 0 x) (questions_below s (t + 1) (y ∷ xs)) (below_from n s t x (omega (arith, e)) 0 x) (below n s (t + 1) (y ∷ xs) (omega (arith, e)))

found_in : (P : Question → Type 0) (t : ℕ) (l : List ℕ) (qs : List Question) (q : Question) → Each P qs → question_at t l qs ≡ Some q → P q
found_in P t l [] q h e = cc
found_in P t l (r ∷ qs) q h e = by ((r.level == t) && same_lineage l (lineage r.own)) e (λ f. found_in P t l qs q h.1 f)
  where
    by : (b : Bool) → cond b (Some r) (question_at t l qs) ≡ Some q → (question_at t l qs ≡ Some q → P q) → P q
    by true f ih = let g : r ≡ q = cc in subst P g h.0
    by false f ih = ih f

pub level_below : (s : System) (xs : List (List LevelSymbol)) (t : ℕ) (l : List ℕ) (q : Question) → question_at t l (questions s xs) ≡ Some q → q.level + 1 < length xs
level_below s xs t l q e = found_in (IsBelow (length xs)) t l (questions s xs) q (below (length xs) s 0 xs (omega arith)) e

-- 2. each level but the last has a next one

get_front : (xs : List (List LevelSymbol)) (y : List LevelSymbol) (t : ℕ) → t < length xs → slice_get (xs ++ y ∷ []) t ≡ slice_get xs t
get_front [] y t h = absurd (omega (arith, h))
get_front (x ∷ xs) y zero h = refl
get_front (x ∷ xs) y (suc t) h = get_front xs y t (omega (arith, h))

last_there : (xs : List (List LevelSymbol)) (n t : ℕ) (x : List LevelSymbol) → length xs ≡ suc n → t ≡ n → slice_get xs t ≡ Some x → last_level xs ≡ x
last_there [] n t x e g h = cc
last_there (y ∷ []) n zero x e g h = cc
last_there (y ∷ []) n (suc t) x e g h = cc
last_there (y ∷ z ∷ xs) zero t x e g h = absurd (omega (arith, e))
last_there (y ∷ z ∷ xs) (suc n) zero x e g h = absurd (omega (arith, g))
last_there (y ∷ z ∷ xs) (suc n) (suc t) x e g h = last_there (z ∷ xs) n t x (omega (arith, e)) (omega (arith, g)) h

pub record HasNext (s : System) (t : ℕ) (x : List LevelSymbol) : Type 0 where
  pub next : List LevelSymbol
  pub is : next_level s t x ≡ Ok next

record Steps (s : System) (n : ℕ) (xs : List (List LevelSymbol)) : Type 0 where
  pub count : length xs ≡ suc n
  pub each : (t : ℕ) (x : List LevelSymbol) → t < n → slice_get xs t ≡ Some x → HasNext s t x

one : (s : System) (n : ℕ) (xs : List (List LevelSymbol)) (y : List LevelSymbol) → length xs ≡ suc n → next_level s n (last_level xs) ≡ Ok y
    → ((t : ℕ) (x : List LevelSymbol) → t < n → slice_get xs t ≡ Some x → HasNext s t x) → (t : ℕ) (x : List LevelSymbol) → t < suc n → slice_get xs t ≡ Some x → HasNext s t x
one s n xs y long h f t x i g = by (cases_lt t n)
  where
    by : (t < n) ⊎ (n ≤ t) → HasNext s t x
    by (inl j) = f t x j g
    by (inr j) =
        let e : t ≡ n = omega (arith, i, j) in
        let l : last_level xs ≡ x = last_there xs n t x long e g in
        record { next = y; is = ap (λ n. next_level s n x) e ∙ ap (next_level s n) (sym l) ∙ h }

steps : (s : System) (limit n : ℕ) (xs : List (List LevelSymbol)) → meaning_to s limit n ≡ Ok xs → Steps s n xs
steps s limit zero xs h =
    let e : first_level s ∷ [] ≡ xs = ok_within limit 0 (first_level s ∷ []) xs h in record { count = ap (length {A = List LevelSymbol}) (sym e); each = λ t x i g. absurd (omega (arith, i)) }
steps s limit (suc n) xs h =
    let before = ok_parts (meaning_to s limit n) _ xs h in
    let here = ok_parts (next_level s n (last_level before.0)) _ xs before.2 in
    let e : before.0 ++ here.0 ∷ [] ≡ xs = ok_within limit (suc n) (before.0 ++ here.0 ∷ []) xs here.2 in
    let r : Steps s n before.0 = steps s limit n before.0 before.1 in
    let long : length before.0 ≡ suc n = r.count in
    let front : (t : ℕ) (x : List LevelSymbol) → t < suc n → slice_get xs t ≡ Some x → slice_get before.0 t ≡ Some x
    = λ t x i g. sym (get_front before.0 here.0 t (omega (arith, i, long))) ∙ ap (λ xs. slice_get xs t) e ∙ g in
    record {
      count = ap (length {A = List LevelSymbol}) (sym e) ∙ length_push before.0 here.0 ∙ omega (arith, long);
      each = λ t x i g. one s n before.0 here.0 long here.1 r.each t x i (front t x i g);
    }

pub next_of : (s : System) (limit : ℕ) (xs : List (List LevelSymbol)) → meaning_to s limit s.depth ≡ Ok xs → (t : ℕ) (x : List LevelSymbol) → t + 1 < length xs → slice_get xs t ≡ Some x → HasNext s t x
next_of s limit xs h t x i g =
    let r : Steps s s.depth xs = steps s limit s.depth xs h in
    let c : length xs ≡ suc s.depth = r.count in r.each t x (omega (arith, i, c)) g

-- 3. where there is a next level, no module has a fault

pub record IsFine (r : Result (List (S.Symbol ℤ)) Fault) : Type 0 where
  pub kids : List (S.Symbol ℤ)
  pub is : r ≡ Ok kids

fine_from : (s : System) (t : ℕ) (x : List LevelSymbol) (p n : ℕ) (rest : List LevelSymbol) (raw : List Raw) → children_from s t x p n rest ≡ Ok raw
    → (i : ℕ) (l : List ℕ) (m : ModuleValue) → slice_get rest i ≡ Some (Module l m) → IsFine (successor s t x (p + i) l m)
fine_from s t x p n [] raw h i l m g = cc
fine_from s t x p n (Push k ∷ rest) raw h zero l m g = cc
fine_from s t x p n (Pop k ∷ rest) raw h zero l m g = cc
fine_from s t x p n (Module k v ∷ rest) raw h zero l m g =
    let z = ok_parts (fault_at t (n + 1) (successor s t x p k v)) _ raw h in
    let f : successor s t x p k v ≡ Ok z.0 = ok_fault_at t (n + 1) (successor s t x p k v) z.0 z.1 in
    let a : k ≡ l = own_lineage k l v m g in
    let b : v ≡ m = own_value k l v m g in
    let c : p + 0 ≡ p = omega arith in
    record { kids = z.0; is = ap (λ p. successor s t x p l m) c ∙ ap (λ l. successor s t x p l m) (sym a) ∙ ap (successor s t x p k) (sym b) ∙ f }
  where
    own_lineage : (k l : List ℕ) (v m : ModuleValue) → Some (Module k v) ≡ Some (Module l m) → k ≡ l
    own_lineage k l v m g = cc

    own_value : (k l : List ℕ) (v m : ModuleValue) → Some (Module k v) ≡ Some (Module l m) → v ≡ m
    own_value k l v m g = cc
fine_from s t x p n (Push k ∷ rest) raw h (suc i) l m g =
    let r = ok_parts (children_from s t x (p + 1) n rest) _ raw h in
    let e : p + 1 + i ≡ p + suc i = omega arith in subst (λ p. IsFine (successor s t x p l m)) e (fine_from s t x (p + 1) n rest r.0 r.1 i l m g)
fine_from s t x p n (Pop k ∷ rest) raw h (suc i) l m g =
    let r = ok_parts (children_from s t x (p + 1) n rest) _ raw h in
    let e : p + 1 + i ≡ p + suc i = omega arith in subst (λ p. IsFine (successor s t x p l m)) e (fine_from s t x (p + 1) n rest r.0 r.1 i l m g)
fine_from s t x p n (Module k v ∷ rest) raw h (suc i) l m g =
    let z = ok_parts (fault_at t (n + 1) (successor s t x p k v)) _ raw h in
    let r = ok_parts (children_from s t x (p + 1) (n + 1) rest) _ raw z.2 in
    let e : p + 1 + i ≡ p + suc i = omega arith in subst (λ p. IsFine (successor s t x p l m)) e (fine_from s t x (p + 1) (n + 1) rest r.0 r.1 i l m g)

pub fine : (s : System) (t : ℕ) (x : List LevelSymbol) → HasNext s t x → (p : ℕ) (l : List ℕ) (m : ModuleValue) → slice_get x p ≡ Some (Module l m) → IsFine (successor s t x p l m)
fine s t x h p l m g =
    let r = ok_parts (children_from s t x 0 0 x) _ h.next h.is in
    let e : 0 + p ≡ p = omega arith in subst (λ p. IsFine (successor s t x p l m)) e (fine_from s t x 0 0 x r.0 r.1 p l m g)
