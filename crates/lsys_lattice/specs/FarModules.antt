-- Which module of a string leads too far, told by its parts.
use Rattle.std.specs.Prelude.{◌≡◌, ℕ, ℤ, true, None, Option, ◌↔◌, List, Contains, ◌++◌}
use Rattle.std.specs.Option.{option_or}
use Rattle.lsys_syntax.specs.Strings.{balanced}
use Rattle.lsys_syntax.specs.Strings as S
use Rattle.lsys_spec.specs.Lattices.{Lattice, frames}
use Rattle.lsys_lattice.specs.Extents.{Extents}
use Rattle.lsys_lattice.specs.Free.{first_far}
use Rattle.lsys_lattice.specs.Effects.{Stand, walker, Walker, walked, stand_from, effect}
use Rattle.lsys_lattice.specs.Motions.{motion, AreSeen}
use Rattle.lsys_lattice.specs.Far.{stays_near, IsInPlane, modules_past}

-- from a stand no module leads too far exactly where what is
-- reached, seen from there, stays within the bound
abbrev pub SeenExtentsTellFarModules : Type 0
SeenExtentsTellFarModules =
    (l : Lattice) (from : Stand) (below : List Stand) (n : ℕ) (xs : List (S.Symbol ℤ))
    (seen : Option Extents)
    → Contains (frames l) from.frame → IsInPlane l from.place → balanced 0 xs ≡ true
    → AreSeen l from (motion l xs).reached seen
    → (first_far l n (walker from below) xs ≡ None) ↔ (stays_near l seen ≡ true)

-- the first module that leads too far is in the first part that has one
abbrev pub TheFirstFarModuleIsInTheFirstFarPart : Type 0
TheFirstFarModuleIsInTheFirstFarPart =
    (l : Lattice) (w : Walker) (n : ℕ) (xs ys : List (S.Symbol ℤ))
    → first_far l n w (xs ++ ys)
    ≡ option_or (first_far l n w xs) (first_far l (modules_past n xs) (walked l xs w) ys)

-- a part leads from places of the hexagonal lattice's plane to such places
abbrev pub PartsStayInThePlane : Type 0
PartsStayInThePlane =
    (l : Lattice) (from : Stand) (xs : List (S.Symbol ℤ))
    → Contains (frames l) from.frame → IsInPlane l from.place
    → balanced 0 xs ≡ true → IsInPlane l (stand_from l from (effect l xs)).place
