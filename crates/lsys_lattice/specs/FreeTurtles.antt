-- How the turtle of a picture goes as the free way does, and how far the picture reaches.
use Rattle.std.specs.Prelude.{◌≡◌, ℤ, Some, ℕ, Ok, List, Err, None, ◌↔◌, not, true, ◌≤◌, length, take}
use Rattle.std.specs.List.{list_all}
use Rattle.lsys_syntax.specs.Strings as S
use Rattle.lsys_spec.specs.Lattices.{Lattice}
use Rattle.lsys_spec.specs.Pictures.{Stepped, turtle_step, Segment, segments_from, is_far, origin, segments_of}
use Rattle.lsys_lattice.specs.Free.{turtle_of, ends_of, first_far}
use Rattle.lsys_lattice.specs.Effects.{Walker, stepped, ends, places_reached, drawn, walked, first_walker}
use Rattle.lsys_lattice.specs.Bounds.{bounds_of, turtle_at}
use Rattle.lsys_lattice.specs.Extents.{extents}

-- a module that doesn't lead too far leads the turtle as the free way goes
abbrev pub TurtlesStepAsTheFreeWay : Type 0
TurtlesStepAsTheFreeWay =
    (l : Lattice) (x : S.Symbol ℤ) (w : Walker) (s : Stepped)
    → turtle_step l x (turtle_of w) ≡ Some s → s.turtle ≡ turtle_of (stepped l x w)

-- a turtle that draws a whole string draws the ends of the free way
abbrev pub TurtlesDrawTheEndsOfTheFreeWay : Type 0
TurtlesDrawTheEndsOfTheFreeWay =
    (l : Lattice) (n : ℕ) (w : Walker) (xs : List (S.Symbol ℤ)) (gs : List Segment)
    → segments_from l n (turtle_of w) xs ≡ Ok gs → ends_of gs ≡ ends l xs w

-- the turtle stops at the first module that leads too far
abbrev pub TurtlesStopAtTheFirstFarModule : Type 0
TurtlesStopAtTheFirstFarModule =
    (l : Lattice) (n : ℕ) (w : Walker) (xs : List (S.Symbol ℤ)) (m : ℕ)
    → first_far l n w xs ≡ Some m → segments_from l n (turtle_of w) xs ≡ Err m

-- where none does, the turtle draws the whole string
abbrev pub TurtlesDrawWhereNothingIsFar : Type 0
TurtlesDrawWhereNothingIsFar =
    (l : Lattice) (n : ℕ) (w : Walker) (xs : List (S.Symbol ℤ))
    → first_far l n w xs ≡ None
    → (gs : List Segment) × (segments_from l n (turtle_of w) xs ≡ Ok gs)

-- no module leads too far exactly where no place that is reached is too far
abbrev pub NothingIsFarWhereAllPlacesAreNear : Type 0
NothingIsFarWhereAllPlacesAreNear =
    (l : Lattice) (n : ℕ) (w : Walker) (xs : List (S.Symbol ℤ))
    → (first_far l n w xs ≡ None) ↔ (list_all (λ v. not (is_far v)) (places_reached l xs w) ≡ true)

-- how far a picture reaches is told by the ends that the effect of its image draws
abbrev pub BoundsAreToldByDrawnEnds : Type 0
BoundsAreToldByDrawnEnds =
    (l : Lattice) (ys : List (S.Symbol ℤ)) (gs : List Segment)
    → segments_of l ys ≡ Ok gs → bounds_of l gs ≡ extents l origin (drawn l ys)

-- after some symbols of an image the turtle is where the free way over these leads
abbrev pub TurtlesStandOnTheFreeWay : Type 0
TurtlesStandOnTheFreeWay =
    (l : Lattice) (n : ℕ) (ys : List (S.Symbol ℤ)) (gs : List Segment)
    → segments_of l ys ≡ Ok gs → n ≤ length ys
    → turtle_at l n ys ≡ Some (turtle_of (walked l (take n ys) (first_walker l)))
