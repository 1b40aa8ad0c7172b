-- Turtles that differ by a vector give segments that differ by it.
use Rattle.std.proofs.Common.{◌≡◌, ℕ, Bool, true, false, Option, Some, None, Result, Ok, Err, List, [], ◌∷◌, map, refl, ap, sym, ◌∙◌, subst, arith, ℤ}
use Rattle.std.specs.Prelude.{◌+ℤ◌, ◌*ℤ◌, option_map}
use Rattle.std.proofs.lemmas.Int.{ints}
use Rattle.lsys_syntax.specs.Tokens.{NameText}
use Rattle.lsys_syntax.specs.Strings.{ModuleName, named, plus, minus, ampersand, caret, backslash, slash, bar, bang}
use Rattle.lsys_syntax.specs.Strings as S
use Rattle.lsys_spec.specs.Lattices.{Lattice, Vector, vector}
use Rattle.lsys_spec.specs.Pictures.{Pose, Turtle, Segment, Act, draws, moves, turns, widens, rests, act_of_letter, first_letter, first_or_one, act, place_ahead, is_far, Stepped, at_place, line_to, unless_far, pose_restored, acted, turtle_step, modules_to, with_segment, and_on, segments_from}
use Rattle.lsys_laws.specs.Shifts.{shifted, shifted_pose, shifted_turtle, shifted_segment}

-- 1. what a module has a turtle do

pub same_named : (m n : NameText) (xs ys : List ℤ) → first_letter m ≡ first_letter n → first_or_one xs ≡ first_or_one ys → act (named m) xs ≡ act (named n) ys
same_named m n xs ys e f = λ i. act_of_letter (e i) (f i)

pub same_first : (n : ModuleName) (xs ys : List ℤ) → first_or_one xs ≡ first_or_one ys → act n xs ≡ act n ys
same_first (named n) xs ys f = same_named n n xs ys refl f
same_first plus xs ys f = λ i. act plus (f i ∷ [])
same_first minus xs ys f = λ i. act minus (f i ∷ [])
same_first ampersand xs ys f = λ i. act ampersand (f i ∷ [])
same_first caret xs ys f = λ i. act caret (f i ∷ [])
same_first backslash xs ys f = λ i. act backslash (f i ∷ [])
same_first slash xs ys f = λ i. act slash (f i ∷ [])
same_first bar xs ys f = refl
same_first bang xs ys f = λ i. act bang (f i ∷ [])

-- 2. one step

some_same : (s t : Stepped) → Some s ≡ Some t → s ≡ t
some_same s t e = cc

moved_on : (a n h d : ℤ) → (a +ℤ d) +ℤ n *ℤ h ≡ (a +ℤ n *ℤ h) +ℤ d
moved_on a n h d = omega (arith, ints)

abbrev shifted_step : Vector → Stepped → Stepped
shifted_step by s = record { turtle = shifted_turtle by s.turtle; segment = option_map (shifted_segment by) s.segment }

ahead_shifted : (by : Vector) (n : ℤ) (p : Pose) → place_ahead n (shifted_pose by p) ≡ shifted by (place_ahead n p)
ahead_shifted by n p =
    let x = moved_on p.place.x n p.frame.heading.x by.x in
    let y = moved_on p.place.y n p.frame.heading.y by.y in
    let z = moved_on p.place.z n p.frame.heading.z by.z in λ i. vector (x i) (y i) (z i)

-- both turtles took this step
by_steps : (by : Vector) (u v s t : Stepped) → Some u ≡ Some s → Some v ≡ Some t → v ≡ shifted_step by u → t ≡ shifted_step by s
by_steps by u v s t h k e = sym (some_same v t k) ∙ e ∙ ap (shifted_step by) (some_same u s h)

not_far : (a b : Bool) (by : Vector) (u v s t : Stepped) → unless_far a u ≡ Some s → unless_far b v ≡ Some t → v ≡ shifted_step by u → t ≡ shifted_step by s
not_far false false by u v s t h k e = by_steps by u v s t h k e
not_far true b by u v s t h k e = cc
not_far false true by u v s t h k e = cc

acted_shifted : (l : Lattice) (by : Vector) (a : Act) (t : Turtle) (s u : Stepped) → acted l a t ≡ Some s → acted l a (shifted_turtle by t) ≡ Some u → u ≡ shifted_step by s
acted_shifted l by (draws n) t s u h k =
    let v = place_ahead n t.pose in
    let w = place_ahead n (shifted_pose by t.pose) in
    not_far (is_far v) (is_far w) by (record { turtle = at_place t v; segment = Some (line_to t.pose v) })
    (record { turtle = at_place (shifted_turtle by t) w; segment = Some (line_to (shifted_pose by t.pose) w) }) s u h k
    (ap (λ w. record { turtle = at_place (shifted_turtle by t) w; segment = Some (line_to (shifted_pose by t.pose) w) }) (ahead_shifted by n t.pose))
acted_shifted l by (moves n) t s u h k =
    let v = place_ahead n t.pose in
    let w = place_ahead n (shifted_pose by t.pose) in
    not_far (is_far v) (is_far w) by (record { turtle = at_place t v; segment = None }) (record { turtle = at_place (shifted_turtle by t) w; segment = None }) s u h k
    (ap (λ w. record { turtle = at_place (shifted_turtle by t) w; segment = None }) (ahead_shifted by n t.pose))
acted_shifted l by (turns turn n) t s u h k = by_steps by _ _ s u h k refl
acted_shifted l by (widens w) t s u h k = by_steps by _ _ s u h k refl
acted_shifted l by rests t s u h k = by_steps by _ _ s u h k refl

restored_shifted : (by : Vector) (t : Turtle) (ps : List Pose) → pose_restored (shifted_turtle by t) (map (shifted_pose by) ps) ≡ shifted_turtle by (pose_restored t ps)
restored_shifted by t [] = refl
restored_shifted by t (p ∷ ps) = refl

step_shifted : (l : Lattice) (by : Vector) (x : S.Symbol ℤ) (t : Turtle) (s u : Stepped) → turtle_step l x t ≡ Some s → turtle_step l x (shifted_turtle by t) ≡ Some u → u ≡ shifted_step by s
step_shifted l by S.Push t s u h k = by_steps by _ _ s u h k refl
step_shifted l by S.Pop t s u h k = by_steps by _ _ s u h k (ap (λ v. record { turtle = v; segment = None }) (restored_shifted by t t.saved))
step_shifted l by S.Cut t s u h k = by_steps by _ _ s u h k refl
step_shifted l by (S.Module n ps) t s u h k = acted_shifted l by (act n ps) t s u h k

-- 3. the segments

-- what is drawn from the one is what is drawn from the other, shifted
abbrev Shift : Vector → Result (List Segment) ℕ → Result (List Segment) ℕ → Type 0
Shift by r q = (gs hs : List Segment) → r ≡ Ok gs → q ≡ Ok hs → hs ≡ map (shifted_segment by) gs

abbrev drawn : List Segment → Result (List Segment) ℕ
drawn gs = Ok gs

ok_same : (gs hs : List Segment) → drawn gs ≡ drawn hs → gs ≡ hs
ok_same gs hs e = cc

with_shift : (by : Vector) (o : Option Segment) (r q : Result (List Segment) ℕ) → Shift by r q → Shift by (with_segment o r) (with_segment (option_map (shifted_segment by) o) q)
with_shift by None r q f = f
with_shift by (Some g) (Ok us) (Ok vs) f = λ gs hs h k.
    sym (ok_same (shifted_segment by g ∷ vs) hs k) ∙ ap (λ l. shifted_segment by g ∷ l) (f us vs refl refl) ∙ ap (map (shifted_segment by)) (ok_same (g ∷ us) gs h)
with_shift by (Some g) (Err n) q f = λ gs hs h k. cc
with_shift by (Some g) (Ok us) (Err n) f = λ gs hs h k. cc

on_shift : (by : Vector) (n : ℕ) (o p : Option Stepped) (f : Turtle → Result (List Segment) ℕ)
    → ((s u : Stepped) → o ≡ Some s → p ≡ Some u → u ≡ shifted_step by s) → ((t : Turtle) → Shift by (f t) (f (shifted_turtle by t))) → Shift by (and_on n o f) (and_on n p f)
on_shift by n None p f e g = λ gs hs h k. cc
on_shift by n (Some s) None f e g = λ gs hs h k. cc
on_shift by n (Some s) (Some u) f e g =
    subst (λ v. Shift by (with_segment s.segment (f s.turtle)) (with_segment v.segment (f v.turtle))) (sym (e s u refl refl))
    (with_shift by s.segment (f s.turtle) (f (shifted_turtle by s.turtle)) (g s.turtle))

pub segments_shifted : (l : Lattice) (by : Vector) (n : ℕ) (xs : List (S.Symbol ℤ)) (t : Turtle) → Shift by (segments_from l n t xs) (segments_from l n (shifted_turtle by t) xs)
segments_shifted l by n [] t = λ gs hs h k. sym (ok_same [] hs k) ∙ ap (map (shifted_segment by)) (ok_same [] gs h)
segments_shifted l by n (x ∷ xs) t =
    on_shift by (modules_to n x) (turtle_step l x t) (turtle_step l x (shifted_turtle by t)) (λ u. segments_from l (modules_to n x) u xs)
    (λ s u. step_shifted l by x t s u) (λ u. segments_shifted l by (modules_to n x) xs u)
