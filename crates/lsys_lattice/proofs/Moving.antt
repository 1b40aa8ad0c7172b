-- The way over a balanced string from anywhere is its way from the start, carried there.
use Rattle.std.proofs.Common.{◌≡◌, ℕ, zero, suc, true, List, [], ◌∷◌, ◌++◌, map, length, refl, ap, sym, ◌∙◌, arith, ◌==◌, append_assoc}
use Rattle.std.specs.Prelude.{ℤ, pos, ◌+ℤ◌, ◌*ℤ◌, Option, Contains}
use Rattle.std.proofs.lemmas.Int.{ints}
use Rattle.std.proofs.lemmas.Bool.Decides.{nat_tests}
use Rattle.lsys_syntax.specs.Strings.{balanced}
use Rattle.lsys_syntax.specs.Strings as S
use Rattle.lsys_spec.specs.Lattices.{Lattice, square, hexagonal, cubic, Vector, Frame, frames, first_frame, Turn, turned, times, turn_count}
use Rattle.lsys_spec.specs.Pictures.{Act, draws, moves, turns, widens, rests, act, origin}
use Rattle.lsys_spec.proofs.Turns.{same_vector}
use Rattle.lsys_lattice.specs.Rotations.{plus, scaled, carried, frame_within}
use Rattle.lsys_lattice.specs.Effects.{Stand, Walker, walker, steps_ahead, done, stepped, walked, drawn_ends, place_reached, symbol_places, places, first_walker, width_after, place_from, stand_from, walker_from, effect}
use Rattle.lsys_lattice.proofs.Carrying.{carried-plus, carried-scaled, followed-start}
use Rattle.lsys_spec.specs.Systems.{Each}
use Rattle.lsys_spec.proofs.Frames.{turned_among, among}
use Rattle.lsys_lattice.proofs.Turning.{turned-followed}

plus-plus : (u v w : Vector) → plus (plus u v) w ≡ plus u (plus v w)
plus-plus u v w = same_vector _ _ _ _ _ _ (omega (arith, ints)) (omega (arith, ints)) (omega (arith, ints))

plus-origin : (v : Vector) → plus v origin ≡ v
plus-origin v = same_vector _ _ _ _ _ _ (omega (arith, ints)) (omega (arith, ints)) (omega (arith, ints))

abbrev stand : Vector → Frame → Option ℕ → Stand
stand p f w = record { place = p; frame = f; width = w }

same_stand : (p q : Vector) (f g : Frame) (w : Option ℕ) → p ≡ q → f ≡ g → stand p f w ≡ stand q g w
same_stand p q f g w a b = cc

-- a move
ahead_from : (l : Lattice) (from h : Stand) (n : ℤ) → steps_ahead n (stand_from l from h) ≡ place_from l from (steps_ahead n h)
ahead_from l from h n =
    plus-plus from.place (carried l from.frame h.place) (scaled n (carried l from.frame h.frame.heading))
    ∙ ap (plus from.place) (ap (plus (carried l from.frame h.place)) (sym (carried-scaled l from.frame n h.frame.heading)) ∙ sym (carried-plus l from.frame h.place (scaled n h.frame.heading)))

-- turns
times_from : (l : Lattice) (turn : Turn) (m : ℕ) (f g : Frame) → Contains (frames l) f → times m (turned l turn) (frame_within l f g) ≡ frame_within l f (times m (turned l turn) g)
times_from l turn zero f g h = refl
times_from l turn (suc m) f g h = ap (turned l turn) (times_from l turn m f g h) ∙ turned-followed l turn f (times m (turned l turn) g) h

-- what a module does
done_from : (l : Lattice) (from h : Stand) (a : Act) → Contains (frames l) from.frame → done l a (stand_from l from h) ≡ stand_from l from (done l a h)
done_from l from h (draws n) k = ap (λ (p : Vector). stand p (frame_within l from.frame h.frame) (width_after from.width h.width)) (ahead_from l from h n)
done_from l from h (moves n) k = ap (λ (p : Vector). stand p (frame_within l from.frame h.frame) (width_after from.width h.width)) (ahead_from l from h n)
done_from l from h (turns turn n) k =
    ap (λ (f : Frame). stand (place_from l from h.place) f (width_after from.width h.width)) (times_from l turn (turn_count l n) from.frame h.frame k)
done_from l from h (widens w) k = refl
done_from l from h rests k = refl

-- one symbol; a `]` has its `[`
some_saved : S.Symbol ℤ → List Stand → Type 0
some_saved S.Pop [] = ⊥
some_saved S.Pop (h ∷ hs) = Unit {0}
some_saved S.Push hs = Unit {0}
some_saved S.Cut hs = Unit {0}
some_saved (S.Module n ps) hs = Unit {0}

stepped_from : (l : Lattice) (from : Stand) (below : List Stand) (x : S.Symbol ℤ) (here : Stand) (saved : List Stand) → Contains (frames l) from.frame → some_saved x saved
    → stepped l x (walker_from l from below (walker here saved)) ≡ walker_from l from below (stepped l x (walker here saved))
unfolding some_saved
stepped_from l from below S.Push here saved k s = refl
stepped_from l from below S.Pop here [] k s = absurd s
stepped_from l from below S.Pop here (h ∷ hs) k s = refl
stepped_from l from below S.Cut here saved k s = refl
stepped_from l from below (S.Module n ps) here saved k s = ap (λ (h : Stand). walker h (map (stand_from l from) saved ++ below)) (done_from l from here (act n ps) k)

-- a string
pub walked_from : (l : Lattice) (from : Stand) (below : List Stand) (xs : List (S.Symbol ℤ)) (here : Stand) (saved : List Stand) → Contains (frames l) from.frame → balanced (length saved) xs ≡ true
    → walked l xs (walker_from l from below (walker here saved)) ≡ walker_from l from below (walked l xs (walker here saved))
unfolding some_saved
walked_from l from below [] here saved k b = refl
walked_from l from below (S.Push ∷ xs) here saved k b = walked_from l from below xs here (here ∷ saved) k b
walked_from l from below (S.Pop ∷ xs) here [] k b = cc
walked_from l from below (S.Pop ∷ xs) here (h ∷ hs) k b = walked_from l from below xs h hs k b
walked_from l from below (S.Cut ∷ xs) here saved k b = walked_from l from below xs here saved k b
walked_from l from below (S.Module n ps ∷ xs) here saved k b =
    ap (walked l xs) (stepped_from l from below (S.Module n ps) here saved k tt) ∙ walked_from l from below xs (done l (act n ps) here) saved k b

never : (n : ℕ) → (suc n == 0) ≡ true → ⊥
never n h = grind (arith, nat_tests)

-- after a balanced string nothing more is saved
pub none_saved : (l : Lattice) (xs : List (S.Symbol ℤ)) (here : Stand) (saved : List Stand) → balanced (length saved) xs ≡ true → (walked l xs (walker here saved)).saved ≡ []
none_saved l [] here [] b = refl
none_saved l [] here (h ∷ hs) b = absurd (never (length hs) b)
none_saved l (S.Push ∷ xs) here saved b = none_saved l xs here (here ∷ saved) b
none_saved l (S.Pop ∷ xs) here [] b = cc
none_saved l (S.Pop ∷ xs) here (h ∷ hs) b = none_saved l xs h hs b
none_saved l (S.Cut ∷ xs) here saved b = none_saved l xs here saved b
none_saved l (S.Module n ps ∷ xs) here saved b = none_saved l xs (done l (act n ps) here) saved b

-- any turtle is the start, carried to where it is
from_start : (l : Lattice) (from : Stand) (below : List Stand) → walker_from l from below (first_walker l) ≡ walker from below
from_start l from below = ap (λ (h : Stand). walker h below) (start_there l from)
  where
    start_there : (l : Lattice) (from : Stand) → stand_from l from (first_walker l).here ≡ from
    start_there l from = same_stand _ from.place _ from.frame from.width (ap (plus from.place) (carried_origin l from.frame) ∙ plus-origin from.place) (followed-start l from.frame)
      where
        nothing : (h k n : ℤ) → pos 0 *ℤ h +ℤ pos 0 *ℤ k +ℤ pos 0 *ℤ n ≡ pos 0
        nothing h k n = omega (arith, ints)

        carried_origin : (l : Lattice) (f : Frame) → carried l f origin ≡ origin
        carried_origin square f = same_vector _ _ _ _ _ _ (nothing f.heading.x f.left.x f.up.x) (nothing f.heading.y f.left.y f.up.y) (nothing f.heading.z f.left.z f.up.z)
        carried_origin hexagonal f = same_vector _ _ _ _ _ _ (nothing f.heading.x f.left.x f.up.x) (nothing f.heading.y f.left.y f.up.y) (nothing f.heading.z f.left.z f.up.z)
        carried_origin cubic f = same_vector _ _ _ _ _ _ (nothing f.heading.x f.left.x f.up.x) (nothing f.heading.y f.left.y f.up.y) (nothing f.heading.z f.left.z f.up.z)

-- from any turtle the way over a balanced string ends where its effect, carried there, does, and what was saved stays
pub law_of_effects : (l : Lattice) (from : Stand) (below : List Stand) (xs : List (S.Symbol ℤ)) → Contains (frames l) from.frame → balanced 0 xs ≡ true
    → walked l xs (walker from below) ≡ walker (stand_from l from (effect l xs)) below
law_of_effects l from below xs k b =
    ap (walked l xs) (sym (from_start l from below))
    ∙ walked_from l from below xs (first_walker l).here [] k b
    ∙ ap (λ (hs : List Stand). walker (stand_from l from (effect l xs)) (map (stand_from l from) hs ++ below)) (none_saved l xs (first_walker l).here [] b)

walked-append : (l : Lattice) (xs ys : List (S.Symbol ℤ)) (w : Walker) → walked l (xs ++ ys) w ≡ walked l ys (walked l xs w)
walked-append l [] ys w = refl
walked-append l (x ∷ xs) ys w = walked-append l xs ys (stepped l x w)

-- 3. frames stay known

first_known : (l : Lattice) → Contains (frames l) (first_frame l)
first_known square = among (frames square) (first_frame square) refl
first_known hexagonal = among (frames hexagonal) (first_frame hexagonal) refl
first_known cubic = among (frames cubic) (first_frame cubic) refl

times_known : (l : Lattice) (turn : Turn) (m : ℕ) (f : Frame) → Contains (frames l) f → Contains (frames l) (times m (turned l turn) f)
times_known l turn zero f k = k
times_known l turn (suc m) f k = turned_among l turn (times m (turned l turn) f) (times_known l turn m f k)

done_known : (l : Lattice) (a : Act) (h : Stand) → Contains (frames l) h.frame → Contains (frames l) (done l a h).frame
done_known l (draws n) h k = k
done_known l (moves n) h k = k
done_known l (turns turn n) h k = times_known l turn (turn_count l n) h.frame k
done_known l (widens w) h k = k
done_known l rests h k = k

pub walked_known : (l : Lattice) (xs : List (S.Symbol ℤ)) (here : Stand) (saved : List Stand) → Contains (frames l) here.frame → Each (λ h. Contains (frames l) h.frame) saved
    → Contains (frames l) (walked l xs (walker here saved)).here.frame
walked_known l [] here saved k e = k
walked_known l (S.Push ∷ xs) here saved k e = walked_known l xs here (here ∷ saved) k (k, e)
walked_known l (S.Pop ∷ xs) here [] k e = walked_known l xs here [] k tt
walked_known l (S.Pop ∷ xs) here (h ∷ hs) k e = walked_known l xs h hs e.0 e.1
walked_known l (S.Cut ∷ xs) here saved k e = walked_known l xs here saved k e
walked_known l (S.Module n ps ∷ xs) here saved k e = walked_known l xs (done l (act n ps) here) saved (done_known l (act n ps) here k) e

-- 4. effects are multiplied

pub effect-append : (l : Lattice) (xs ys : List (S.Symbol ℤ)) → balanced 0 xs ≡ true → balanced 0 ys ≡ true → effect l (xs ++ ys) ≡ stand_from l (effect l xs) (effect l ys)
effect-append l xs ys b c =
    let e : walked l xs (first_walker l) ≡ walker (effect l xs) [] = ap (walker (effect l xs)) (none_saved l xs (first_walker l).here [] b) in
    ap (λ (w : Walker). w.here)
    (walked-append l xs ys (first_walker l) ∙ ap (walked l ys) e
    ∙ law_of_effects l (effect l xs) [] ys (walked_known l xs (first_walker l).here [] (first_known l) tt) c)

-- a branch has no effect
pub effect-branch : (l : Lattice) (xs : List (S.Symbol ℤ)) → balanced 0 xs ≡ true → effect l (S.Push ∷ xs ++ S.Pop ∷ []) ≡ (first_walker l).here
effect-branch l xs b =
    let start = (first_walker l).here in
    ap (λ (w : Walker). w.here)
    (walked-append l xs (S.Pop ∷ []) (walker start (start ∷ []))
    ∙ ap (walked l (S.Pop ∷ [])) (law_of_effects l start (start ∷ []) xs (first_known l) b))

-- 5. the ends that are drawn, and the places that are reached

map-append : {A B : Type 0} (f : A → B) (xs ys : List A) → map f (xs ++ ys) ≡ map f xs ++ map f ys
map-append f [] ys = refl
map-append f (x ∷ xs) ys = ap (λ zs. f x ∷ zs) (map-append f xs ys)

pub drawn_from : (l : Lattice) (from h : Stand) (a : Act) → drawn_ends a (stand_from l from h) ≡ map (place_from l from) (drawn_ends a h)
drawn_from l from h (draws n) = ap (λ (p : Vector). place_from l from h.place ∷ p ∷ []) (ahead_from l from h n)
drawn_from l from h (moves n) = refl
drawn_from l from h (turns turn n) = refl
drawn_from l from h (widens w) = refl
drawn_from l from h rests = refl

pub reached_from : (l : Lattice) (from h : Stand) (a : Act) → place_reached a (stand_from l from h) ≡ map (place_from l from) (place_reached a h)
reached_from l from h (draws n) = ap (λ (p : Vector). p ∷ []) (ahead_from l from h n)
reached_from l from h (moves n) = ap (λ (p : Vector). p ∷ []) (ahead_from l from h n)
reached_from l from h (turns turn n) = refl
reached_from l from h (widens w) = refl
reached_from l from h rests = refl

module _ (told : Act → Stand → List Vector) (told_from : (l : Lattice) (from h : Stand) (a : Act) → told a (stand_from l from h) ≡ map (place_from l from) (told a h)) where
  places_from : (l : Lattice) (from : Stand) (below : List Stand) (xs : List (S.Symbol ℤ)) (here : Stand) (saved : List Stand) → Contains (frames l) from.frame → balanced (length saved) xs ≡ true
      → places told l xs (walker_from l from below (walker here saved)) ≡ map (place_from l from) (places told l xs (walker here saved))
  unfolding some_saved
  places_from l from below [] here saved k b = refl
  places_from l from below (S.Push ∷ xs) here saved k b = places_from l from below xs here (here ∷ saved) k b
  places_from l from below (S.Pop ∷ xs) here [] k b = cc
  places_from l from below (S.Pop ∷ xs) here (h ∷ hs) k b = places_from l from below xs h hs k b
  places_from l from below (S.Cut ∷ xs) here saved k b = places_from l from below xs here saved k b
  places_from l from below (S.Module n ps ∷ xs) here saved k b =
      ap (λ (es : List Vector). es ++ places told l xs (stepped l (S.Module n ps) (walker_from l from below (walker here saved)))) (told_from l from here (act n ps))
      ∙ ap (λ (w : Walker). map (place_from l from) (told (act n ps) here) ++ places told l xs w) (stepped_from l from below (S.Module n ps) here saved k tt)
      ∙ ap (λ (es : List Vector). map (place_from l from) (told (act n ps) here) ++ es) (places_from l from below xs (done l (act n ps) here) saved k b)
      ∙ sym (map-append (place_from l from) (told (act n ps) here) (places told l xs (walker (done l (act n ps) here) saved)))

  places-append : (l : Lattice) (xs ys : List (S.Symbol ℤ)) (w : Walker) → places told l (xs ++ ys) w ≡ places told l xs w ++ places told l ys (walked l xs w)
  places-append l [] ys w = refl
  places-append l (x ∷ xs) ys w =
      ap (λ (es : List Vector). symbol_places told x w.here ++ es) (places-append l xs ys (stepped l x w))
      ∙ sym (append_assoc (symbol_places told x w.here) (places told l xs (stepped l x w)) (places told l ys (walked l xs (stepped l x w))))

  pub told-append : (l : Lattice) (xs ys : List (S.Symbol ℤ)) → balanced 0 xs ≡ true → balanced 0 ys ≡ true
      → places told l (xs ++ ys) (first_walker l) ≡ places told l xs (first_walker l) ++ map (place_from l (effect l xs)) (places told l ys (first_walker l))
  told-append l xs ys b c =
      let e : walked l xs (first_walker l) ≡ walker (effect l xs) [] = ap (walker (effect l xs)) (none_saved l xs (first_walker l).here [] b) in
      places-append l xs ys (first_walker l)
      ∙ ap (λ (w : Walker). places told l xs (first_walker l) ++ places told l ys w) (e ∙ sym (from_start l (effect l xs) []))
      ∙ ap (λ (es : List Vector). places told l xs (first_walker l) ++ es) (places_from l (effect l xs) [] ys (first_walker l).here [] (walked_known l xs (first_walker l).here [] (first_known l) tt) c)

  pub told_anywhere : (l : Lattice) (from : Stand) (below : List Stand) (xs : List (S.Symbol ℤ)) → Contains (frames l) from.frame → balanced 0 xs ≡ true
      → places told l xs (walker from below) ≡ map (place_from l from) (places told l xs (first_walker l))
  told_anywhere l from below xs k b = ap (places told l xs) (sym (from_start l from below)) ∙ places_from l from below xs (first_walker l).here [] k b
