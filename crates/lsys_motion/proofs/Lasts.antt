-- What is told of a picture, and of the last of some levels.
use Rattle.std.proofs.Common.{◌≡◌, ◌≤◌, ◌<◌, ◌+◌, ◌^◌, ℕ, zero, suc, Bool, true, false, Option, Some, None, Result, Ok, Err, List, [], ◌∷◌, ◌++◌, length, map, take, nat_lt, slice_get, refl, ap, sym, ◌∙◌, subst, if◌then◌else◌, length-append, arith}
use Rattle.std.specs.Prelude.{ℤ, option_map}
use Rattle.std.proofs.lemmas.Bool.Decides.{nat_tests}
use Rattle.std.proofs.lemmas.List.{length-map, length-take, get_or-take}
use Rattle.std.proofs.lemmas.Option.{slice_get_past}
use Rattle.lsys_syntax.specs.Strings as S
use Rattle.lsys_spec.specs.Systems.{System}
use Rattle.lsys_spec.specs.Values.{◌and_then◌}
use Rattle.lsys_spec.specs.Levels.{LevelSymbol, level_balanced}
use Rattle.lsys_spec.specs.Lattices.{Lattice}
use Rattle.lsys_spec.specs.Images.{ImageRefusal, image}
use Rattle.lsys_spec.specs.Pictures.{Pose, Turtle, Segment, PictureRefusal, or_far, or_no_image, picture, segments_of}
use Rattle.lsys_lattice.specs.Effects.{Walker, walked, stepped, first_walker}
use Rattle.lsys_lattice.specs.Free.{pose_of, turtle_of}
use Rattle.lsys_lattice.specs.Bounds.{bounds, bounds_of, turtle_after, turtle_at, turtle_or_refusal}
use Rattle.lsys_lattice.proofs.Freely.{turtle_there, none_too_far}
use Rattle.lsys_level.specs.Spots.{Spotted, spots_at, level_by}
use Rattle.lsys_out.specs.Drawings.{last_symbols}
use Rattle.lsys_out.specs.Nesting.{HasLast}
use Rattle.lsys_motion.specs.Told.{Track, poses_of, told}
use Rattle.lsys_motion.specs.Keepers.{heres}
use Rattle.lsys_motion.proofs.Steps.{length-heres}
use Rattle.lsys_motion.proofs.Telling.{all_told}

-- 1. one pose

pose_on_way : (l : Lattice) (w : Walker) (ys : List (S.Symbol ℤ)) (n : ℕ) → n ≤ length ys
    → slice_get (map pose_of (heres l ys w) ++ pose_of (walked l ys w).here ∷ []) n ≡ Some (pose_of (walked l (take n ys) w).here)
pose_on_way l w [] zero h = refl
pose_on_way l w [] (suc n) h = absurd (omega arith)
pose_on_way l w (y ∷ ys) zero h = refl
pose_on_way l w (y ∷ ys) (suc n) h = pose_on_way l (stepped l y w) ys n (omega arith)

abbrev pose_in : Option Turtle → Option Pose
pose_in o = option_map (λ (u : Turtle). u.pose) o

there : (l : Lattice) (ys : List (S.Symbol ℤ)) (gs : List Segment) → segments_of l ys ≡ Ok gs → (n : ℕ) (b : Bool) → nat_lt (length ys) n ≡ b
    → pose_in (if b then None else turtle_after l (turtle_of (first_walker l)) (take n ys)) ≡ slice_get (poses_of l ys) n
there l ys gs h n true e =
    let less : length ys < n = grind (arith, nat_tests) in
    let size : length (map pose_of (heres l ys (first_walker l)) ++ pose_of (walked l ys (first_walker l)).here ∷ []) ≡ length ys + 1 =
    length-append (map pose_of (heres l ys (first_walker l))) (pose_of (walked l ys (first_walker l)).here ∷ [])
    ∙ ap (λ m. m + 1) (length-map (heres l ys (first_walker l)) pose_of ∙ length-heres l ys (first_walker l)) in
    sym (slice_get_past (map pose_of (heres l ys (first_walker l)) ++ pose_of (walked l ys (first_walker l)).here ∷ []) n (omega (arith, size, less)))
    ∙ ap (λ ps. slice_get ps n) (all_told l ys gs h)
there l ys gs h n false e =
    let few : n ≤ length ys = grind (arith, nat_tests) in
    ap pose_in (turtle_there l 0 (first_walker l) ys (none_too_far l 0 (first_walker l) ys gs h) n)
    ∙ sym (pose_on_way l (first_walker l) ys n few)
    ∙ ap (λ ps. slice_get ps n) (all_told l ys gs h)

-- 2. of a level

abbrev way_of : Lattice → Result (List (S.Symbol ℤ)) ImageRefusal → Result (List (S.Symbol ℤ) × List Segment) PictureRefusal
way_of l i = or_no_image i and_then λ ys. or_far (segments_of l ys) and_then λ gs. Ok (ys, gs)

abbrev told_by : Lattice → Result (List (S.Symbol ℤ) × List Segment) PictureRefusal → Result Track PictureRefusal
told_by l r = r and_then λ way. Ok (record { bounds = bounds_of l way.1; poses = poses_of l way.0 })

-- it has an image and segments
record IsWay (l : Lattice) (r : Result (List (S.Symbol ℤ) × List Segment) PictureRefusal) (t : Track) : Type 0 where
  symbols : List (S.Symbol ℤ)
  segments : List Segment
  is : r ≡ Ok (symbols, segments)
  drawn : segments_of l symbols ≡ Ok segments
  bounds_are : bounds_of l segments ≡ t.bounds
  poses_are : poses_of l symbols ≡ t.poses

is_way : (l : Lattice) (i : Result (List (S.Symbol ℤ)) ImageRefusal) (t : Track) → told_by l (way_of l i) ≡ Ok t → IsWay l (way_of l i) t
is_way l (Err e) t h = cc
is_way l (Ok ys) t h = by (segments_of l ys) refl h
  where
    by : (r : Result (List Segment) ℕ) → segments_of l ys ≡ r → told_by l (or_far r and_then λ gs. Ok (ys, gs)) ≡ Ok t → IsWay l (or_far (segments_of l ys) and_then λ gs. Ok (ys, gs)) t
    by (Err n) e k = cc
    by (Ok gs) e k =
        let f : (let u : Track = record { bounds = bounds_of l gs; poses = poses_of l ys } in u) ≡ t = cc in
        record {
          symbols = ys;
          segments = gs;
          is = ap (λ r. or_far r and_then λ gs. Ok (ys, gs)) e;
          drawn = e;
          bounds_are = ap (λ (u : Track). u.bounds) f;
          poses_are = ap (λ (u : Track). u.poses) f;
        }

pub told_bounds : (s : System) (x : List LevelSymbol) (t : Track) → told s x ≡ Ok t → bounds s x ≡ Ok t.bounds
told_bounds s x t h =
    let w = is_way s.lattice (image s x) t h in ap (λ r. r and_then λ way. Ok (bounds_of s.lattice way.1)) w.is ∙ ap Ok w.bounds_are

pub told_turtles : (s : System) (x : List LevelSymbol) (t : Track) (n : ℕ) → told s x ≡ Ok t → (turtle_or_refusal s x n and_then λ o. Ok (pose_in o)) ≡ Ok (slice_get t.poses n)
told_turtles s x t n h =
    let w = is_way s.lattice (image s x) t h in
    ap (λ r. (r and_then λ way. Ok (turtle_at s.lattice n way.0)) and_then λ o. Ok (pose_in o)) w.is
    ∙ ap Ok (there s.lattice w.symbols w.segments w.drawn n (nat_lt (length w.symbols) n) refl ∙ ap (λ ps. slice_get ps n) w.poses_are)

refused_by : (l : Lattice) (i : Result (List (S.Symbol ℤ)) ImageRefusal) (r : PictureRefusal) → told_by l (way_of l i) ≡ Err r → (or_no_image i and_then λ ys. or_far (segments_of l ys)) ≡ Err r
refused_by l (Err e) r h = cc
refused_by l (Ok ys) r h = by (segments_of l ys) h
  where
    by : (q : Result (List Segment) ℕ) → told_by l (or_far q and_then λ gs. Ok (ys, gs)) ≡ Err r → or_far q ≡ Err r
    by (Ok gs) k = cc
    by (Err n) k = cc

pub told_refused : (s : System) (x : List LevelSymbol) (r : PictureRefusal) → told s x ≡ Err r → picture s x ≡ Err r
told_refused s x r h = refused_by s.lattice (image s x) r h

-- 3. the last of some levels

longer : (d : ℕ) (levels : List (List Spotted)) → length (take (d + 1) levels) ≤ length levels
longer d levels = let e = length-take (d + 1) levels in omega (arith, e)

same_last : (d : ℕ) (levels : List (List Spotted)) → spots_at (take (d + 1) levels) d ≡ spots_at levels d
same_last d levels = get_or-take (d + 1) levels d [] (omega arith)

pub has_last : (s : System) (levels : List (List Spotted)) → HasLast s (take (s.depth + 1) levels) → HasLast s levels
has_last s levels h =
    let level = h.level in
    record {
      spelled = h.spelled;
      level = omega (arith, level, longer s.depth levels);
      few = subst (λ x. length x < 2 ^ 32) (same_last s.depth levels) h.few;
      balance = subst (λ x. level_balanced 0 (level_by (λ tag. []) x) ≡ true) (same_last s.depth levels) h.balance;
    }

pub last_same : (naming : ℕ → List ℕ) (s : System) (levels : List (List Spotted)) → last_symbols naming s (take (s.depth + 1) levels) ≡ last_symbols naming s levels
last_same naming s levels = ap (level_by naming) (same_last s.depth levels)
