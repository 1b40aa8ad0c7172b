-- What is told of a picture, by its image and its segments.
use Rattle.std.proofs.Common.{◌≡◌, ◌<◌, ◌^◌, ℕ, zero, suc, Bool, true, false, cond, Option, Some, None, Result, Ok, Err, List, [], ◌∷◌, ◌++◌, length, map, take, refl, ap, sym, ◌∙◌, arith}
use Rattle.std.specs.Prelude.{ℤ}
use Rattle.std.proofs.lemmas.Bool.Decides.{nat_tests}
use Rattle.lsys_syntax.specs.Limits.{greatest_coordinate}
use Rattle.lsys_syntax.specs.Strings as S
use Rattle.lsys_spec.specs.Systems.{System, Each}
use Rattle.lsys_spec.specs.Values.{◌and_then◌}
use Rattle.lsys_spec.specs.Lattices.{Lattice, Vector, IsWithin}
use Rattle.lsys_spec.specs.Images.{ImageRefusal}
use Rattle.lsys_spec.specs.Pictures.{Act, draws, moves, turns, widens, rests, act, Pose, Turtle, Stepped, Segment, PictureRefusal, NoImage, is_far, modules_to, or_far, or_no_image, picture, segments_of, turtle_step}
use Rattle.lsys_lattice.specs.Effects.{Stand, Walker, walker, done, stepped, walked, first_walker}
use Rattle.lsys_lattice.specs.Free.{pose_of, turtle_of, leads_far, goes_far, first_far}
use Rattle.lsys_lattice.specs.Bounds.{bounds_of, gone_on}
use Rattle.lsys_lattice.proofs.Freely.{turtle_there, none_too_far}
use Rattle.lsys_level.specs.Spots.{Spotted, spots_at}
use Rattle.lsys_hom.specs.Coming.{Coming, coming, image_ended}
use Rattle.lsys_hom.proofs.Named.{coming_named}
use Rattle.lsys_hom.proofs.Runs.{law_whole}
use Rattle.lsys_out.specs.Drawings.{last_drawing, last_image, last_symbols}
use Rattle.lsys_out.specs.Shown.{on_lattice}
use Rattle.lsys_out.proofs.Whole.{picture_drawn, picture_refused}
use Rattle.lsys_out.proofs.Going.{few_begin}
use Rattle.lsys_motion.specs.Told.{Track, poses_after, poses_from, poses_of, told}
use Rattle.lsys_motion.specs.Pieces.{IsNear}
use Rattle.lsys_motion.specs.Keepers.{heres, StaysNear}

-- 1. poses on the way

not_first : (b : Bool) (n : ℕ) (far : Option ℕ) → cond b (Some n) far ≡ None → (b ≡ false) × (far ≡ None)
not_first true n far h = cc
not_first false n far h = (refl, h)

went : (r : Option Stepped) (t : Turtle) (f : Turtle → List Pose) → gone_on r (λ u. Some u) ≡ Some t → poses_after r f ≡ f t
went None t f h = cc
went (Some s) t f h = let e : s.turtle ≡ t = cc in ap f e

pub poses_on_way : (l : Lattice) (k : ℕ) (w : Walker) (xs : List (S.Symbol ℤ)) → first_far l k w xs ≡ None
    → map pose_of (heres l xs w) ++ pose_of (walked l xs w).here ∷ [] ≡ poses_from l (turtle_of w) xs
poses_on_way l k w [] h = refl
poses_on_way l k w (x ∷ xs) h =
    let near = not_first (goes_far l x w) (modules_to k x) (first_far l (modules_to k x) (stepped l x w) xs) h in
    let one : gone_on (turtle_step l x (turtle_of w)) (λ u. Some u) ≡ Some (turtle_of (stepped l x w)) = turtle_there l k w (x ∷ xs) h (suc zero) in
    ap (λ ps. pose_of w.here ∷ ps)
    (poses_on_way l (modules_to k x) (stepped l x w) xs near.1 ∙ sym (went (turtle_step l x (turtle_of w)) (turtle_of (stepped l x w)) (λ u. poses_from l u xs) one))

-- 2. all within reach

within : (v : Vector) → is_far v ≡ false → IsWithin greatest_coordinate v
within v e = record { x = grind (arith, nat_tests); y = grind (arith, nat_tests); z = grind (arith, nat_tests) }

act_near : (l : Lattice) (a : Act) (h : Stand) → IsNear h → leads_far a (done l a h).place ≡ false → IsNear (done l a h)
act_near l (draws n) h k e = within (done l (draws n) h).place e
act_near l (moves n) h k e = within (done l (moves n) h).place e
act_near l (turns turn n) h k e = k
act_near l (widens w) h k e = k
act_near l rests h k e = k

record AreNear (w : Walker) : Type 0 where
  here : IsNear w.here
  saved : Each IsNear w.saved

step_near : (l : Lattice) (x : S.Symbol ℤ) (here : Stand) (saved : List Stand) → AreNear (walker here saved) → goes_far l x (walker here saved) ≡ false → AreNear (stepped l x (walker here saved))
step_near l S.Push here saved n e = record { here = n.here; saved = (n.here, n.saved) }
step_near l S.Pop here [] n e = n
step_near l S.Pop here (h ∷ hs) n e = record { here = n.saved.0; saved = n.saved.1 }
step_near l S.Cut here saved n e = n
step_near l (S.Module m ps) here saved n e = record { here = act_near l (act m ps) here n.here e; saved = n.saved }

near_way : (l : Lattice) (k : ℕ) (w : Walker) (xs : List (S.Symbol ℤ)) → first_far l k w xs ≡ None → AreNear w → (n : ℕ) → IsNear (walked l (take n xs) w).here
near_way l k w xs h near zero = near.here
near_way l k w [] h near (suc n) = near.here
near_way l k w (x ∷ xs) h near (suc n) =
    let one = not_first (goes_far l x w) (modules_to k x) (first_far l (modules_to k x) (stepped l x w) xs) h in
    near_way l (modules_to k x) (stepped l x w) xs one.1 (step_near l x w.here w.saved near one.0) n

start_near : (l : Lattice) → AreNear (first_walker l)
start_near l = record { here = record { x = omega arith; y = omega arith; z = omega arith }; saved = tt }

pub stays_near : (l : Lattice) (xs : List (S.Symbol ℤ)) (gs : List Segment) → segments_of l xs ≡ Ok gs → StaysNear l xs
stays_near l xs gs h n = near_way l 0 (first_walker l) xs (none_too_far l 0 (first_walker l) xs gs h) (start_near l) n

pub all_told : (l : Lattice) (xs : List (S.Symbol ℤ)) (gs : List Segment) → segments_of l xs ≡ Ok gs → map pose_of (heres l xs (first_walker l)) ++ pose_of (walked l xs (first_walker l)).here ∷ [] ≡ poses_of l xs
all_told l xs gs h = poses_on_way l 0 (first_walker l) xs (none_too_far l 0 (first_walker l) xs gs h)

-- 3. the picture of the last level

-- it isn't refused: its image, its segments, and what is told
pub record IsDrawn (naming : ℕ → List ℕ) (l : Lattice) (s : System) (levels : List (List Spotted)) : Type 0 where
  pub refusal : (last_image s levels).refusal ≡ None
  pub segments : segments_of l (last_image s levels).symbols ≡ Ok (last_drawing l s levels).segments
  pub told_is : told (on_lattice l s) (last_symbols naming s levels) ≡ Ok (record { bounds = bounds_of l (last_drawing l s levels).segments; poses = poses_of l (last_image s levels).symbols })

abbrev drawn_as : Lattice → Result (List (S.Symbol ℤ)) ImageRefusal → Result (List Segment) PictureRefusal
drawn_as l i = or_no_image i and_then λ ys. or_far (segments_of l ys)

abbrev Way : Type 0
Way = List (S.Symbol ℤ) × List Segment

-- the image with the segments, where there are such
abbrev way_on : List (S.Symbol ℤ) → Result (List Segment) ℕ → Result Way PictureRefusal
way_on ys r = or_far r and_then λ gs. Ok (ys, gs)

abbrev way_over : Lattice → Result (List (S.Symbol ℤ)) ImageRefusal → Result Way PictureRefusal
way_over l i = or_no_image i and_then λ ys. way_on ys (segments_of l ys)

abbrev told_on : Lattice → Result Way PictureRefusal → Result Track PictureRefusal
told_on l r = r and_then λ way. Ok (record { bounds = bounds_of l way.1; poses = poses_of l way.0 })

abbrev told_as : Lattice → Result (List (S.Symbol ℤ)) ImageRefusal → Result Track PictureRefusal
told_as l i = told_on l (way_over l i)

record HasImage (l : Lattice) (c : Coming) (gs : List Segment) : Type 0 where
  refusal : c.refusal ≡ None
  segments : segments_of l c.symbols ≡ Ok gs
  told_is : told_as l (image_ended c.symbols c.refusal) ≡ Ok (record { bounds = bounds_of l gs; poses = poses_of l c.symbols })

far_ok : (r : Result (List Segment) ℕ) (gs : List Segment) → or_far r ≡ Ok gs → r ≡ Ok gs
far_ok (Ok hs) gs h = let e : hs ≡ gs = cc in ap Ok e
far_ok (Err n) gs h = cc

has_image : (l : Lattice) (symbols : List (S.Symbol ℤ)) (refusal : Option ImageRefusal) (gs : List Segment) → drawn_as l (image_ended symbols refusal) ≡ Ok gs
    → HasImage l (record { symbols = symbols; refusal = refusal }) gs
has_image l symbols (Some r) gs h = cc
has_image l symbols None gs h =
    let s = far_ok (segments_of l symbols) gs h in
    record {
      refusal = refl;
      segments = s;
      told_is = ap (λ r. told_on l (way_on symbols r)) s;
    }

told_named : (naming : ℕ → List ℕ) (l : Lattice) (s : System) (levels : List (List Spotted))
    → told (on_lattice l s) (last_symbols naming s levels) ≡ told_as l (image_ended (last_image s levels).symbols (last_image s levels).refusal)
told_named naming l s levels =
    ap (told_as l) (sym (law_whole s (last_symbols naming s levels)))
    ∙ ap (λ (c : Coming). told_as l (image_ended c.symbols c.refusal)) (sym (coming_named s.homomorphisms 0 0 (λ tag. []) naming (spots_at levels s.depth)))

drawn_named : (l : Lattice) (s : System) (levels : List (List Spotted))
    → picture (on_lattice l s) (last_symbols (λ tag. []) s levels) ≡ drawn_as l (image_ended (last_image s levels).symbols (last_image s levels).refusal)
drawn_named l s levels = ap (drawn_as l) (sym (law_whole s (last_symbols (λ tag. []) s levels)))

pub is_drawn : (naming : ℕ → List ℕ) (l : Lattice) (s : System) (levels : List (List Spotted)) → (last_drawing l s levels).refusal ≡ None → IsDrawn naming l s levels
is_drawn naming l s levels h =
    let i = has_image l (last_image s levels).symbols (last_image s levels).refusal (last_drawing l s levels).segments
    (sym (drawn_named l s levels) ∙ picture_drawn (λ tag. []) l s levels h) in
    record { refusal = i.refusal; segments = i.segments; told_is = told_named naming l s levels ∙ i.told_is }

-- it is refused

refused_as : (l : Lattice) (i : Result (List (S.Symbol ℤ)) ImageRefusal) (r : PictureRefusal) → drawn_as l i ≡ Err r → told_as l i ≡ Err r
refused_as l (Err e) r h = let k : ◌≡◌ {A = Result (List Segment) PictureRefusal} (or_no_image (Err e)) (Err r) = h in cc
refused_as l (Ok ys) r h = by (segments_of l ys) h
  where
    by : (q : Result (List Segment) ℕ) → or_far q ≡ Err r → told_on l (way_on ys q) ≡ Err r
    by (Ok gs) e = cc
    by (Err n) e = cc

pub is_refused : (naming : ℕ → List ℕ) (l : Lattice) (s : System) (levels : List (List Spotted)) (r : PictureRefusal) → (last_drawing l s levels).refusal ≡ Some r
    → told (on_lattice l s) (last_symbols naming s levels) ≡ Err r
is_refused naming l s levels r h =
    ap (told_as l) (sym (law_whole s (last_symbols naming s levels)))
    ∙ refused_as l (image_ended (coming s (last_symbols naming s levels)).symbols (coming s (last_symbols naming s levels)).refusal) r
    (ap (drawn_as l) (law_whole s (last_symbols naming s levels)) ∙ picture_refused naming l s levels r h)

pub is_unseen : (naming : ℕ → List ℕ) (l : Lattice) (s : System) (levels : List (List Spotted)) (r : ImageRefusal) → (last_image s levels).refusal ≡ Some r
    → told (on_lattice l s) (last_symbols naming s levels) ≡ Err (NoImage r)
is_unseen naming l s levels r h = told_named naming l s levels ∙ ap (λ o. told_as l (image_ended (last_image s levels).symbols o)) h

-- 4. an image has few symbols
pub few_symbols : (s : System) (levels : List (List Spotted)) → length (last_image s levels).symbols < 2 ^ 32
few_symbols s levels = let h = few_begin s levels (last_image s levels) refl in omega (arith, h)
