-- The way over a front of a balanced string.
use Rattle.std.proofs.Common.{◌≡◌, ℕ, zero, suc, ◌+◌, ◌≤◌, true, List, [], ◌∷◌, ◌++◌, map, length, length-append, take, refl, ap, sym, ◌∙◌, arith}
use Rattle.std.specs.Prelude.{ℤ, Option, Some, None, Contains}
use Rattle.std.proofs.lemmas.Grind.{common_steps}
use Rattle.std.proofs.Math.Seq.{take-append-add}
use Rattle.std.proofs.lemmas.List.{take-append-le}
use Rattle.lsys_syntax.specs.Strings.{balanced}
use Rattle.lsys_syntax.specs.Strings as S
use Rattle.lsys_spec.specs.Lattices.{Lattice, square, hexagonal, cubic, Vector, frame, frames, first_frame}
use Rattle.lsys_spec.specs.Pictures.{act, origin}
use Rattle.lsys_spec.proofs.Turns.{same_vector}
use Rattle.lsys_spec.proofs.Frames.{among}
use Rattle.std.proofs.lemmas.Int.{ints}
use Rattle.lsys_lattice.specs.Rotations.{plus}
use Rattle.lsys_lattice.proofs.Carrying.{carried-start}
use Rattle.lsys_lattice.specs.Effects.{width_after, place_from, Stand, Walker, walker, done, stepped, walked, first_walker, stand_from, walker_from, effect}
use Rattle.lsys_lattice.proofs.Moving.{walked_from, walked_known, none_saved, law_of_effects}
use Rattle.lsys_lattice.specs.Courses.{course, onward, inward}

pub first_known : (l : Lattice) → Contains (frames l) (first_frame l)
first_known square = among (frames square) (first_frame square) refl
first_known hexagonal = among (frames hexagonal) (first_frame hexagonal) refl
first_known cubic = among (frames cubic) (first_frame cubic) refl

from_start : (l : Lattice) (from : Stand) (below : List Stand) → Contains (frames l) from.frame → walker_from l from below (first_walker l) ≡ walker from below
from_start l from below k = sym (law_of_effects l from below [] k refl)

done_there : (l : Lattice) (from : Stand) (below : List Stand) (here : Stand) (m : S.ModuleName) (ps : List ℤ) → Contains (frames l) from.frame
    → done l (act m ps) (stand_from l from here) ≡ stand_from l from (done l (act m ps) here)
done_there l from below here m ps k = ap (λ (w : Walker). w.here) (walked_from l from below (S.Module m ps ∷ []) here [] k refl)

-- a front of a balanced string closes no branch that the string doesn't open
front_from : (l : Lattice) (from : Stand) (below : List Stand) (n : ℕ) (xs : List (S.Symbol ℤ)) (here : Stand) (saved : List Stand) → Contains (frames l) from.frame → balanced (length saved) xs ≡ true
    → walked l (take n xs) (walker_from l from below (walker here saved)) ≡ walker_from l from below (walked l (take n xs) (walker here saved))
front_from l from below zero xs here saved k b = refl
front_from l from below (suc n) [] here saved k b = refl
front_from l from below (suc n) (S.Push ∷ xs) here saved k b = front_from l from below n xs here (here ∷ saved) k b
front_from l from below (suc n) (S.Pop ∷ xs) here [] k b = cc
front_from l from below (suc n) (S.Pop ∷ xs) here (h ∷ hs) k b = front_from l from below n xs h hs k b
front_from l from below (suc n) (S.Cut ∷ xs) here saved k b = front_from l from below n xs here saved k b
front_from l from below (suc n) (S.Module m ps ∷ xs) here saved k b =
    ap (λ (h : Stand). walked l (take n xs) (walker h (map (stand_from l from) saved ++ below))) (done_there l from below here m ps k)
    ∙ front_from l from below n xs (done l (act m ps) here) saved k b

pub course_anywhere : (l : Lattice) (from : Stand) (below : List Stand) (n : ℕ) (xs : List (S.Symbol ℤ)) → Contains (frames l) from.frame → balanced 0 xs ≡ true
    → walked l (take n xs) (walker from below) ≡ walker_from l from below (course l n xs)
course_anywhere l from below n xs k b =
    ap (walked l (take n xs)) (sym (from_start l from below k)) ∙ front_from l from below n xs (first_walker l).here [] k b

pub walked-append : (l : Lattice) (xs ys : List (S.Symbol ℤ)) (w : Walker) → walked l (xs ++ ys) w ≡ walked l ys (walked l xs w)
walked-append l [] ys w = refl
walked-append l (x ∷ xs) ys w = walked-append l xs ys (stepped l x w)

pub effect_known : (l : Lattice) (xs : List (S.Symbol ℤ)) → Contains (frames l) (effect l xs).frame
effect_known l xs = walked_known l xs (first_walker l).here [] (first_known l) tt

walked_whole : (l : Lattice) (xs : List (S.Symbol ℤ)) → balanced 0 xs ≡ true → walked l xs (first_walker l) ≡ walker (effect l xs) []
walked_whole l xs b = ap (walker (effect l xs)) (none_saved l xs (first_walker l).here [] b)

pub course_first : (l : Lattice) (n : ℕ) (xs ys : List (S.Symbol ℤ)) → n ≤ length xs → course l n (xs ++ ys) ≡ course l n xs
course_first l n xs ys h = ap (λ zs. walked l zs (first_walker l)) (take-append-le n xs ys h)

pub course_second : (l : Lattice) (n : ℕ) (xs ys : List (S.Symbol ℤ)) → balanced 0 xs ≡ true → balanced 0 ys ≡ true → course l (length xs + n) (xs ++ ys) ≡ onward l xs (course l n ys)
course_second l n xs ys b c =
    ap (λ zs. walked l zs (first_walker l)) (take-append-add xs ys n)
    ∙ walked-append l xs (take n ys) (first_walker l)
    ∙ ap (walked l (take n ys)) (walked_whole l xs b)
    ∙ course_anywhere l (effect l xs) [] n ys (effect_known l xs) c

-- from the start everything is where it is

pub place_there : (l : Lattice) (v : Vector) → place_from l (first_walker l).here v ≡ v
place_there l v = ap (plus origin) (carried-start l v) ∙ origin_plus v
  where
    origin_plus : (v : Vector) → plus origin v ≡ v
    origin_plus v = same_vector _ _ _ _ _ _ (omega (arith, ints)) (omega (arith, ints)) (omega (arith, ints))

abbrev stand : Vector → Vector → Vector → Vector → Option ℕ → Stand
stand p a b c w = record { place = p; frame = frame a b c; width = w }

same_stand : (p q : Vector) (a a' b b' c c' : Vector) (w w' : Option ℕ) → p ≡ q → a ≡ a' → b ≡ b' → c ≡ c' → w ≡ w' → stand p a b c w ≡ stand q a' b' c' w'
same_stand p q a a' b b' c c' w w' e f g h i = cc

width_there : (w : Option ℕ) → width_after None w ≡ w
width_there None = refl
width_there (Some w) = refl

pub stand_there : (l : Lattice) (h : Stand) → stand_from l (first_walker l).here h ≡ h
stand_there l h =
    same_stand _ _ _ _ _ _ _ _ _ _ (place_there l h.place) (carried-start l h.frame.heading) (carried-start l h.frame.left) (carried-start l h.frame.up) (width_there h.width)

stands_there : (l : Lattice) (hs : List Stand) → map (stand_from l (first_walker l).here) hs ≡ hs
stands_there l [] = refl
stands_there l (h ∷ hs) = ap (λ (k : Stand). k ∷ map (stand_from l (first_walker l).here) hs) (stand_there l h) ∙ ap (λ ks. h ∷ ks) (stands_there l hs)

walker_there : (l : Lattice) (below : List Stand) (w : Walker) → walker_from l (first_walker l).here below w ≡ record w { saved = w.saved ++ below }
walker_there l below w =
    ap (λ (h : Stand). walker h (map (stand_from l (first_walker l).here) w.saved ++ below)) (stand_there l w.here)
    ∙ ap (λ hs. walker w.here (hs ++ below)) (stands_there l w.saved)

pub course_branch : (l : Lattice) (n : ℕ) (xs : List (S.Symbol ℤ)) → balanced 0 xs ≡ true → n ≤ length xs → course l (suc n) (S.Push ∷ xs ++ S.Pop ∷ []) ≡ inward l (course l n xs)
course_branch l n xs b h =
    let start : Stand = (first_walker l).here in
    ap (λ zs. walked l zs (walker start (start ∷ []))) (take-append-le n xs (S.Pop ∷ []) h)
    ∙ course_anywhere l start (start ∷ []) n xs (first_known l) b
    ∙ walker_there l (start ∷ []) (course l n xs)

all_taken : {A : Type 0} (n : ℕ) (xs : List A) → length xs ≤ n → take n xs ≡ xs
all_taken n [] h = grind (arith, common_steps)
all_taken zero (x ∷ xs) h = absurd (omega arith)
all_taken (suc n) (x ∷ xs) h = ap (λ ys. x ∷ ys) (all_taken n xs (omega arith))

pub course_after : (l : Lattice) (n : ℕ) (xs : List (S.Symbol ℤ)) → balanced 0 xs ≡ true → length xs + 2 ≤ n → course l n (S.Push ∷ xs ++ S.Pop ∷ []) ≡ first_walker l
course_after l n xs b h =
    let start : Stand = (first_walker l).here in
    let size : length xs + 1 ≡ length (xs ++ S.Pop ∷ []) = sym (length-append xs (S.Pop ∷ [])) in
    ap (λ zs. walked l zs (first_walker l)) (all_taken n (S.Push ∷ xs ++ S.Pop ∷ []) (omega (arith, size, h)))
    ∙ walked-append l xs (S.Pop ∷ []) (walker start (start ∷ []))
    ∙ ap (walked l (S.Pop ∷ [])) (law_of_effects l start (start ∷ []) xs (first_known l) b)
