-- The place at which an aim falls when weights are laid end to end.
use Rattle.std.proofs.Common.{◌≡◌, ℕ, zero, suc, ◌+◌, ◌-◌, ◌*◌, ◌/◌, ◌^◌, ◌<◌, ◌≤◌, Bool, true, false, nat_lt, if◌then◌else◌, List, [], ◌∷◌, ◌++◌, length, take, sum, Option, Some, None, refl, ap, slice_index, arith, lit<, add-one}
use Rattle.std.specs.Prelude.{option_map}
use Rattle.std.proofs.Math.Nat.{div-lt_iff_lt-mul, mul-lt-mul_of_pos_right, div-mul-le_self, mul-le-mul_right}
use Rattle.std.proofs.lemmas.Nat.{le-div}
use Rattle.std.proofs.lemmas.List.{take_all}
use Rattle.std.proofs.lemmas.List.Sums.{sum_by-cons, sum_by-take-le}
use Rattle.std.proofs.lemmas.Grind.{common_steps}
use Rattle.std.proofs.lemmas.Bool.Decides.{nat_tests}
use Rattle.lsys_spec.specs.Draws.{aim_of, IsPick, place_past, pick_of, unsplit}

-- a draw of 64 bits falls below a sum that is not 0
pub aim_below : (draw whole : ℕ) → draw < 2 ^ 64 → 0 < whole → draw * whole / 2 ^ 64 < whole
aim_below draw whole d w =
    let h : draw * whole < 2 ^ 64 * whole = mul-lt-mul_of_pos_right d w in
    (div-lt_iff_lt-mul (lit< tt)).1 (omega (arith, h))

sum-cons : (w : ℕ) (ws : List ℕ) → sum (w ∷ ws) ≡ w + sum ws
sum-cons w ws = sum_by-cons (λ n. n) w ws

sum_take-cons : (w : ℕ) (ws : List ℕ) (n : ℕ) → sum (take (n + 1) (w ∷ ws)) ≡ w + sum (take n ws)
sum_take-cons w ws n = rw add-one (sum-cons w (take n ws))

-- The relation of picks at any aim.
pub IsPlace : ℕ → List ℕ → Option ℕ → Type 0
IsPlace aim ws None = sum ws ≤ aim
IsPlace aim ws (Some place) =
    (place < length ws)
    × (aim < sum (take (place + 1) ws))
    × ((k : ℕ) → k < place → sum (take (k + 1) ws) ≤ aim)

later : (aim w : ℕ) (ws : List ℕ) (found : Option ℕ)
    → w ≤ aim → IsPlace (aim - w) ws found → IsPlace aim (w ∷ ws) (option_map (λ i. i + 1) found)
unfolding IsPlace
later aim w ws None le h = omega (arith, h, sum-cons w ws)
later aim w ws (Some i) le h =
    let past : sum (take (i + 1 + 1) (w ∷ ws)) ≡ w + sum (take (i + 1) ws) = sum_take-cons w ws (i + 1) in
    let here : i + 1 < length (w ∷ ws) = omega (arith, h.0) in
    (here, omega (arith, past, h.1), λ k lt. before k lt)
  where
    before : (k : ℕ) → k < i + 1 → sum (take (k + 1) (w ∷ ws)) ≤ aim
    before zero lt = omega (arith, sum_take-cons w ws 0)
    before (suc k) lt =
        let spelled : sum (take (suc k) ws) ≡ sum (take (k + 1) ws) = rw add-one refl in
        omega (arith, spelled, sum_take-cons w ws (suc k), h.2 k (omega arith))

place_step : (aim w : ℕ) (ws : List ℕ) (found : Option ℕ) (test : Bool) → nat_lt aim w ≡ test → IsPlace (aim - w) ws found
    → IsPlace aim (w ∷ ws) (if test then Some 0 else option_map (λ i. i + 1) found)
unfolding IsPlace
place_step aim w ws found true e h =
    let under : aim < w = grind (arith, nat_tests) in
    (omega arith, omega (arith, sum_take-cons w ws 0), λ k lt. absurd (omega arith))
place_step aim w ws found false e h = later aim w ws found (grind (arith, nat_tests)) h

pub place_found : (aim : ℕ) (ws : List ℕ) → IsPlace aim ws (place_past aim ws)
unfolding IsPlace
place_found aim [] = omega arith
place_found aim (w ∷ ws) = place_step aim w ws (place_past (aim - w) ws) (nat_lt aim w) refl (place_found (aim - w) ws)

sum_take-le : (n : ℕ) (ws : List ℕ) → sum (take n ws) ≤ sum ws
sum_take-le n ws = sum_by-take-le (λ w. w) ws n

pub only_place : (aim : ℕ) (ws : List ℕ) (p q : Option ℕ) → IsPlace aim ws p → IsPlace aim ws q → p ≡ q
unfolding IsPlace
only_place aim ws None None h k = refl
only_place aim ws None (Some j) h k = absurd (omega (arith, h, k.1, sum_take-le (j + 1) ws))
only_place aim ws (Some i) None h k = absurd (omega (arith, k, h.1, sum_take-le (i + 1) ws))
only_place aim ws (Some i) (Some j) h k =
    let not_before : i < j → ⊥ = λ lt. omega (arith, h.1, k.2 i lt) in
    let not_after : j < i → ⊥ = λ lt. omega (arith, k.1, h.2 j lt) in
    let same : i ≡ j = omega arith in
    ap (λ n. Some n) same

pub place_of_pick : (draw : ℕ) (ws : List ℕ) (p : Option ℕ) → IsPick draw ws p → IsPlace (aim_of draw ws) ws p
unfolding IsPlace
place_of_pick draw ws None h = omega (arith, h)
place_of_pick draw ws (Some i) h = h

pub pick_of_place : (draw : ℕ) (ws : List ℕ) (p : Option ℕ) → draw < 2 ^ 64 → IsPlace (aim_of draw ws) ws p → IsPick draw ws p
unfolding IsPlace
pick_of_place draw ws None d h = grind (arith, h, aim_below draw (sum ws) d)
pick_of_place draw ws (Some i) d h = h

-- a weight that is reached isn't 0
pub weight_past : (aim : ℕ) (ws : List ℕ) (place : ℕ) → place_past aim ws ≡ Some place → 0 < slice_index ws place
weight_past aim [] place e = cc
weight_past aim (w ∷ ws) place e = weight_step aim w ws place (nat_lt aim w) refl (place_past (aim - w) ws) (weight_past (aim - w) ws) e
  where
    weight_step : (aim w : ℕ) (ws : List ℕ) (place : ℕ) (test : Bool) → nat_lt aim w ≡ test → (found : Option ℕ)
        → ((i : ℕ) → found ≡ Some i → 0 < slice_index ws i)
        → (if test then Some 0 else option_map (λ i. i + 1) found) ≡ Some place → 0 < slice_index (w ∷ ws) place
    weight_step aim w ws place true t found h e = grind (arith, nat_tests, common_steps)
    weight_step aim w ws place false t None h e = cc
    weight_step aim w ws place false t (Some i) h e = grind (arith, nat_tests, common_steps, h i refl)

order_step : (test test' : Bool) (p q : Option ℕ) (i j : ℕ)
    → (test' ≡ true → test ≡ true) → ((i j : ℕ) → p ≡ Some i → q ≡ Some j → i ≤ j)
    → (if test then Some 0 else option_map (λ i. i + 1) p) ≡ Some i
    → (if test' then Some 0 else option_map (λ i. i + 1) q) ≡ Some j → i ≤ j
order_step true test' p q i j t h e e' = grind arith
order_step false true p q i j t h e e' = absurd (let f : false ≡ true = t refl in cc)
order_step false false None q i j t h e e' = cc
order_step false false (Some a) None i j t h e e' = cc
order_step false false (Some a) (Some b) i j t h e e' = grind (arith, h a b refl refl)

-- a greater aim falls at no earlier place
pub place_past-le : (less more : ℕ) (ws : List ℕ) (i j : ℕ) → less ≤ more
    → place_past less ws ≡ Some i → place_past more ws ≡ Some j → i ≤ j
place_past-le less more [] i j le e e' = cc
place_past-le less more (w ∷ ws) i j le e e' =
    order_step (nat_lt less w) (nat_lt more w) (place_past (less - w) ws) (place_past (more - w) ws) i j
    (λ t. grind (arith, nat_tests)) (λ a b. place_past-le (less - w) (more - w) ws a b (omega arith)) e e'

pub aim_of-le : (less more : ℕ) (ws : List ℕ) → less ≤ more → aim_of less ws ≤ aim_of more ws
aim_of-le less more ws le =
    let under : less * sum ws ≤ more * sum ws = mul-le-mul_right (sum ws) le in
    le-div (less * sum ws / 2 ^ 64) (more * sum ws) (2 ^ 64) (lit< tt)
    (omega (arith, under, div-mul-le_self (less * sum ws) (2 ^ 64)))

-- the two parts of a split weight
split_here : (aim a b : ℕ) (back : List ℕ) (past_a past_b past_both : Bool)
    → nat_lt aim a ≡ past_a → nat_lt (aim - a) b ≡ past_b → nat_lt aim (a + b) ≡ past_both
    → (found found' : Option ℕ) → found ≡ found'
    → unsplit 0 (if past_a then Some 0 else option_map (λ i. i + 1) (if past_b then Some 0 else option_map (λ i. i + 1) found))
    ≡ (if past_both then Some 0 else option_map (λ i. i + 1) found')
split_here aim a b back true past_b true ea eb e found found' s = refl
split_here aim a b back true past_b false ea eb e found found' s = absurd (grind (arith, nat_tests))
split_here aim a b back false true true ea eb e found found' s = refl
split_here aim a b back false true false ea eb e found found' s = absurd (grind (arith, nat_tests))
split_here aim a b back false false true ea eb e found found' s = absurd (grind (arith, nat_tests))
split_here aim a b back false false false ea eb e None found' s = ap (option_map (λ i. i + 1)) s
split_here aim a b back false false false ea eb e (Some i) found' s = rw (← s) (grind (arith, nat_tests))

split_later : (place : ℕ) (test : Bool) (found found' : Option ℕ) → unsplit place found ≡ found'
    → unsplit (suc place) (if test then Some 0 else option_map (λ i. i + 1) found) ≡ (if test then Some 0 else option_map (λ i. i + 1) found')
split_later place true found found' e = grind (arith, nat_tests)
split_later place false None found' e = rw (← e) refl
split_later place false (Some i) found' e = rw (← e) (grind (arith, nat_tests))

pub place_past-split : (aim : ℕ) (front : List ℕ) (a b : ℕ) (back : List ℕ)
    → unsplit (length front) (place_past aim (front ++ a ∷ b ∷ back)) ≡ place_past aim (front ++ (a + b) ∷ back)
place_past-split aim [] a b back =
    split_here aim a b back (nat_lt aim a) (nat_lt (aim - a) b) (nat_lt aim (a + b)) refl refl refl
    (place_past (aim - a - b) back) (place_past (aim - (a + b)) back) (ap (λ n. place_past n back) (omega arith))
place_past-split aim (w ∷ front) a b back =
    split_later (length front) (nat_lt aim w) (place_past (aim - w) (front ++ a ∷ b ∷ back)) (place_past (aim - w) (front ++ (a + b) ∷ back))
    (place_past-split (aim - w) front a b back)

pub sum-split : (front : List ℕ) (a b : ℕ) (back : List ℕ) → sum (front ++ a ∷ b ∷ back) ≡ sum (front ++ (a + b) ∷ back)
sum-split [] a b back = omega (arith, sum-cons a (b ∷ back), sum-cons b back, sum-cons (a + b) back)
sum-split (w ∷ front) a b back =
    omega (arith, sum-cons w (front ++ a ∷ b ∷ back), sum-cons w (front ++ (a + b) ∷ back), sum-split front a b back)

-- the relation holds of one pick alone
pub only_pick : (draw : ℕ) (ws : List ℕ) (p : Option ℕ) → draw < 2 ^ 64 → IsPick draw ws p → p ≡ pick_of draw ws
only_pick draw ws p d h = only_place (aim_of draw ws) ws p (pick_of draw ws) (place_of_pick draw ws p h) (place_found (aim_of draw ws) ws)

-- an aim below the sum is reached at some place
pub reached : (aim : ℕ) (ws : List ℕ) → aim < sum ws → ((k : ℕ) → k < length ws → sum (take (k + 1) ws) ≤ aim) → ⊥
reached aim [] lt h = omega arith
reached aim (w ∷ ws) lt h =
    let all : sum (take (length ws + 1) (w ∷ ws)) ≡ sum (w ∷ ws) = ap sum (take_all (length ws + 1) (w ∷ ws) (omega arith)) in
    omega (arith, all, h (length ws) (omega arith))
