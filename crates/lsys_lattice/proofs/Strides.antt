-- Parts side by side, and parts of parts.
use Rattle.std.proofs.Common.{◌≡◌, ℕ, zero, suc, ◌+◌, ◌-◌, ◌≤◌, ◌<◌, Bool, true, false, cond, List, [], ◌∷◌, ◌++◌, length, length-append, append_assoc, refl, ap, sym, ◌∙◌, arith, nat_lt}
use Rattle.std.specs.Prelude.{ℤ, Option, Some, None, Ok, Contains}
use Rattle.lsys_spec.specs.Pictures.{Turtle, Segment, segments_of}
use Rattle.lsys_lattice.specs.Free.{turtle_of}
use Rattle.lsys_lattice.specs.Bounds.{turtle_at}
use Rattle.lsys_lattice.proofs.Freely.{turtle_there, none_too_far}
use Rattle.std.proofs.lemmas.Bool.Decides.{nat_tests}
use Rattle.lsys_syntax.specs.Strings.{balanced}
use Rattle.lsys_syntax.specs.Strings as S
use Rattle.lsys_spec.specs.Lattices.{Lattice, frames}
use Rattle.lsys_lattice.specs.Effects.{Stand, Walker, walker, walked, first_walker, stand_from, walker_from, effect}
use Rattle.lsys_lattice.proofs.Moving.{law_of_effects}
use Rattle.lsys_lattice.proofs.Turning.{followed-known}
use Rattle.lsys_lattice.specs.Courses.{course, onward, inward, strung, AreAllBalanced, led_through, Grouping, Run, Row, Branch, nested_string, HasBalancedRuns, descent}
use Rattle.lsys_lattice.proofs.Fronts.{first_known, effect_known, course_first, course_second, course_branch, course_after, walked-append}
use Rattle.lsys_lattice.proofs.Joining.{balanced-append}

-- 1. side by side

pub strung_balanced : (parts : List (List (S.Symbol ℤ))) → AreAllBalanced parts → balanced 0 (strung parts) ≡ true
strung_balanced [] h = refl
strung_balanced (xs ∷ parts) h = balanced-append 0 xs (strung parts) h.0 (strung_balanced parts h.1)

led_from : (l : Lattice) (from : Stand) (parts : List (List (S.Symbol ℤ))) → Contains (frames l) from.frame → AreAllBalanced parts
    → walked l (strung parts) (walker from []) ≡ walker (led_through l from parts) []
led_from l from [] k h = refl
led_from l from (xs ∷ parts) k h =
    walked-append l xs (strung parts) (walker from [])
    ∙ ap (walked l (strung parts)) (law_of_effects l from [] xs k h.0)
    ∙ led_from l (stand_from l from (effect l xs)) parts (followed-known l from.frame (effect l xs).frame k (effect_known l xs)) h.1

pub led_there : (l : Lattice) (parts : List (List (S.Symbol ℤ))) → AreAllBalanced parts → effect l (strung parts) ≡ led_through l (first_walker l).here parts
led_there l parts h = ap (λ (w : Walker). w.here) (led_from l (first_walker l).here parts (first_known l) h)

pub course_inside : (l : Lattice) (n : ℕ) (before : List (List (S.Symbol ℤ))) (part after : List (S.Symbol ℤ)) → AreAllBalanced before → balanced 0 part ≡ true → n ≤ length part
    → course l (length (strung before) + n) (strung before ++ (part ++ after)) ≡ walker_from l (led_through l (first_walker l).here before) [] (course l n part)
course_inside l n before part after b c h =
    let k : ℕ = length (strung before) in
    let size : length (strung before ++ part) ≡ k + length part = length-append (strung before) part in
    let few : k + n ≤ length (strung before ++ part) = omega (arith, size, h) in
    ap (course l (k + n)) (sym (append_assoc (strung before) part after))
    ∙ course_first l (k + n) (strung before ++ part) after few
    ∙ course_second l n (strung before) part (strung_balanced before b) c
    ∙ ap (λ (h : Stand). walker_from l h [] (course l n part)) (led_there l before b)

-- 2. parts of parts

closed_balanced : (k : ℕ) (xs : List (S.Symbol ℤ)) → balanced k xs ≡ true → balanced (suc k) (xs ++ S.Pop ∷ []) ≡ true
closed_balanced k [] b = b
closed_balanced k (S.Module n ps ∷ xs) b = closed_balanced k xs b
closed_balanced k (S.Push ∷ xs) b = closed_balanced (suc k) xs b
closed_balanced zero (S.Pop ∷ xs) b = cc
closed_balanced (suc k) (S.Pop ∷ xs) b = closed_balanced k xs b
closed_balanced k (S.Cut ∷ xs) b = closed_balanced k xs b

pub parts_balanced : (parts : Grouping) → HasBalancedRuns parts → balanced 0 (nested_string parts) ≡ true
parts_balanced (Run xs) h = h
parts_balanced (Row a b) h = balanced-append 0 (nested_string a) (nested_string b) (parts_balanced a h.0) (parts_balanced b h.1)
parts_balanced (Branch a) h = closed_balanced 0 (nested_string a) (parts_balanced a h)

chosen : {A : Type 0} (b : Bool) (x y z : A) → (b ≡ true → x ≡ z) → (b ≡ false → y ≡ z) → cond b x y ≡ z
chosen true x y z f g = f refl
chosen false x y z f g = g refl

pub descent_there : (l : Lattice) (n : ℕ) (parts : Grouping) → HasBalancedRuns parts → n ≤ length (nested_string parts) → descent l n parts ≡ course l n (nested_string parts)
descent_there l n (Run xs) h few = refl
descent_there l n (Row a b) h few =
    let k : ℕ = length (nested_string a) in
    let size : length (nested_string a ++ nested_string b) ≡ k + length (nested_string b) = length-append (nested_string a) (nested_string b) in
    chosen (nat_lt k n) _ _ _
    (λ past.
    let beyond : k < n = grind (arith, nat_tests) in
    let rest : k + (n - k) ≡ n = omega (arith, beyond) in
    let left : n - k ≤ length (nested_string b) = omega (arith, beyond, size, few) in
    ap (onward l (nested_string a)) (descent_there l (n - k) b h.1 left)
    ∙ sym (course_second l (n - k) (nested_string a) (nested_string b) (parts_balanced a h.0) (parts_balanced b h.1))
    ∙ ap (λ (m : ℕ). course l m (nested_string a ++ nested_string b)) rest)
    (λ not_past.
    let within : n ≤ k = grind (arith, nat_tests) in
    descent_there l n a h.0 within ∙ sym (course_first l n (nested_string a) (nested_string b) within))
descent_there l zero (Branch a) h few = refl
descent_there l (suc n) (Branch a) h few =
    let k : ℕ = length (nested_string a) in
    chosen (nat_lt k n) _ _ _
    (λ past.
    let beyond : k < n = grind (arith, nat_tests) in
    sym (course_after l (suc n) (nested_string a) (parts_balanced a h) (omega (arith, beyond))))
    (λ not_past.
    let within : n ≤ k = grind (arith, nat_tests) in
    ap (inward l) (descent_there l n a h within) ∙ sym (course_branch l n (nested_string a) (parts_balanced a h) within))

present : (b : Bool) (o : Option Turtle) → b ≡ false → cond b None o ≡ o
present true o e = cc
present false o e = refl

pub turtle_told : (l : Lattice) (n : ℕ) (parts : Grouping) (gs : List Segment) → HasBalancedRuns parts → segments_of l (nested_string parts) ≡ Ok gs → n ≤ length (nested_string parts)
    → turtle_at l n (nested_string parts) ≡ Some (turtle_of (descent l n parts))
turtle_told l n parts gs b h few =
    let ys : List (S.Symbol ℤ) = nested_string parts in
    let there : nat_lt (length ys) n ≡ false = grind (arith, nat_tests) in
    present (nat_lt (length ys) n) _ there
    ∙ turtle_there l 0 (first_walker l) ys (none_too_far l 0 (first_walker l) ys gs h) n
    ∙ ap (λ (w : Walker). Some (turtle_of w)) (sym (descent_there l n parts b few))
