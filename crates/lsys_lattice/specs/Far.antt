-- Whether a part leads too far from a stand, by the extents of the places that it reaches.
use Rattle.std.specs.Prelude.{◌≡◌, ℕ, ℤ, pos, Bool, true, not, ◌&&◌, Option, Some, None, List, fold}
use Rattle.lsys_syntax.specs.Strings as S
use Rattle.lsys_spec.specs.Lattices.{Lattice, square, hexagonal, cubic, Vector, vector}
use Rattle.lsys_spec.specs.Pictures.{is_far, modules_to}
use Rattle.lsys_lattice.specs.Extents.{Extents}

-- the measures that are coordinates: on the hexagonal lattice the third one isn't
abbrev pub coordinates : Lattice → Vector → Vector
coordinates square m = m
coordinates hexagonal m = vector m.x m.y (pos 0)
coordinates cubic m = m

abbrev pub stays_near : Lattice → Option Extents → Bool
stays_near l None = true
stays_near l (Some e) = not (is_far (coordinates l e.low)) && not (is_far (coordinates l e.high))

-- The place lies in the plane of the hexagonal lattice; on the other two lattices each does that its turtles reach.
abbrev pub IsInPlane : Lattice → Vector → Type 0
IsInPlane square v = Unit {0}
IsInPlane hexagonal v = v.z ≡ pos 0
IsInPlane cubic v = Unit {0}

-- so many modules stand before what comes after a string, where n stand before it
abbrev pub modules_past : ℕ → List (S.Symbol ℤ) → ℕ
modules_past n xs = fold modules_to n xs
