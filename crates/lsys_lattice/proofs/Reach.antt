-- The extents of places that were carried by the frames of the flat lattices.
use Rattle.std.proofs.Common.{◌≡◌, List, map, sym, arith}
use Rattle.std.specs.Prelude.{ℤ, neg_ℤ}
use Rattle.std.proofs.lemmas.Int.{ints}
use Rattle.lsys_spec.specs.Lattices.{Vector, vector, square, hexagonal}
use Rattle.lsys_lattice.specs.Rotations.{carried, measures}
use Rattle.lsys_lattice.specs.Extents.{Extents, least, greatest, extents}
use Rattle.lsys_lattice.proofs.Ranges.{least_same, greatest_same, least_opposite, greatest_opposite}
use Rattle.lsys_lattice.specs.FlatFrames.{square_frame, hexagonal_frame}
use Rattle.lsys_lattice.specs.declared.square.SquareFrame.TheVariants as squares
use Rattle.lsys_lattice.specs.declared.hexagonal.HexagonalFrame.TheVariants as hexagons

abbrev pub reach : Vector → Vector → Extents
reach low high = record { low = low; high = high }

pub same_reach : (a a' b b' c c' d d' e e' f f' : ℤ) → a ≡ a' → b ≡ b' → c ≡ c' → d ≡ d' → e ≡ e' → f ≡ f' → reach (vector a b c) (vector d e f) ≡ reach (vector a' b' c') (vector d' e' f')
same_reach a a' b b' c c' d d' e e' f f' h i j k l m = cc

abbrev pub square_North : Extents → Extents
square_North e = reach (vector e.low.x e.low.y e.low.z) (vector e.high.x e.high.y e.high.z)

pub square_North-carried : (v : Vector) (vs : List Vector) → square_North (extents square v vs) ≡ extents square (carried square (square_frame squares.North) v) (map (carried square (square_frame squares.North)) vs)
square_North-carried v vs =
    same_reach _ _ _ _ _ _ _ _ _ _ _ _
    (sym (least_same (carried square (square_frame squares.North)) (λ w. (measures square w).x) (λ w. (measures square w).x) (λ w. omega (arith, ints)) v vs))
    (sym (least_same (carried square (square_frame squares.North)) (λ w. (measures square w).y) (λ w. (measures square w).y) (λ w. omega (arith, ints)) v vs))
    (sym (least_same (carried square (square_frame squares.North)) (λ w. (measures square w).z) (λ w. (measures square w).z) (λ w. omega (arith, ints)) v vs))
    (sym (greatest_same (carried square (square_frame squares.North)) (λ w. (measures square w).x) (λ w. (measures square w).x) (λ w. omega (arith, ints)) v vs))
    (sym (greatest_same (carried square (square_frame squares.North)) (λ w. (measures square w).y) (λ w. (measures square w).y) (λ w. omega (arith, ints)) v vs))
    (sym (greatest_same (carried square (square_frame squares.North)) (λ w. (measures square w).z) (λ w. (measures square w).z) (λ w. omega (arith, ints)) v vs))

abbrev pub square_West : Extents → Extents
square_West e = reach (vector (neg_ℤ e.high.y) e.low.x e.low.z) (vector (neg_ℤ e.low.y) e.high.x e.high.z)

pub square_West-carried : (v : Vector) (vs : List Vector) → square_West (extents square v vs) ≡ extents square (carried square (square_frame squares.West) v) (map (carried square (square_frame squares.West)) vs)
square_West-carried v vs =
    same_reach _ _ _ _ _ _ _ _ _ _ _ _
    (sym (least_opposite (carried square (square_frame squares.West)) (λ w. (measures square w).x) (λ w. (measures square w).y) (λ w. omega (arith, ints)) v vs))
    (sym (least_same (carried square (square_frame squares.West)) (λ w. (measures square w).y) (λ w. (measures square w).x) (λ w. omega (arith, ints)) v vs))
    (sym (least_same (carried square (square_frame squares.West)) (λ w. (measures square w).z) (λ w. (measures square w).z) (λ w. omega (arith, ints)) v vs))
    (sym (greatest_opposite (carried square (square_frame squares.West)) (λ w. (measures square w).x) (λ w. (measures square w).y) (λ w. omega (arith, ints)) v vs))
    (sym (greatest_same (carried square (square_frame squares.West)) (λ w. (measures square w).y) (λ w. (measures square w).x) (λ w. omega (arith, ints)) v vs))
    (sym (greatest_same (carried square (square_frame squares.West)) (λ w. (measures square w).z) (λ w. (measures square w).z) (λ w. omega (arith, ints)) v vs))

abbrev pub square_South : Extents → Extents
square_South e = reach (vector (neg_ℤ e.high.x) (neg_ℤ e.high.y) e.low.z) (vector (neg_ℤ e.low.x) (neg_ℤ e.low.y) e.high.z)

pub square_South-carried : (v : Vector) (vs : List Vector) → square_South (extents square v vs) ≡ extents square (carried square (square_frame squares.South) v) (map (carried square (square_frame squares.South)) vs)
square_South-carried v vs =
    same_reach _ _ _ _ _ _ _ _ _ _ _ _
    (sym (least_opposite (carried square (square_frame squares.South)) (λ w. (measures square w).x) (λ w. (measures square w).x) (λ w. omega (arith, ints)) v vs))
    (sym (least_opposite (carried square (square_frame squares.South)) (λ w. (measures square w).y) (λ w. (measures square w).y) (λ w. omega (arith, ints)) v vs))
    (sym (least_same (carried square (square_frame squares.South)) (λ w. (measures square w).z) (λ w. (measures square w).z) (λ w. omega (arith, ints)) v vs))
    (sym (greatest_opposite (carried square (square_frame squares.South)) (λ w. (measures square w).x) (λ w. (measures square w).x) (λ w. omega (arith, ints)) v vs))
    (sym (greatest_opposite (carried square (square_frame squares.South)) (λ w. (measures square w).y) (λ w. (measures square w).y) (λ w. omega (arith, ints)) v vs))
    (sym (greatest_same (carried square (square_frame squares.South)) (λ w. (measures square w).z) (λ w. (measures square w).z) (λ w. omega (arith, ints)) v vs))

abbrev pub square_East : Extents → Extents
square_East e = reach (vector e.low.y (neg_ℤ e.high.x) e.low.z) (vector e.high.y (neg_ℤ e.low.x) e.high.z)

pub square_East-carried : (v : Vector) (vs : List Vector) → square_East (extents square v vs) ≡ extents square (carried square (square_frame squares.East) v) (map (carried square (square_frame squares.East)) vs)
square_East-carried v vs =
    same_reach _ _ _ _ _ _ _ _ _ _ _ _
    (sym (least_same (carried square (square_frame squares.East)) (λ w. (measures square w).x) (λ w. (measures square w).y) (λ w. omega (arith, ints)) v vs))
    (sym (least_opposite (carried square (square_frame squares.East)) (λ w. (measures square w).y) (λ w. (measures square w).x) (λ w. omega (arith, ints)) v vs))
    (sym (least_same (carried square (square_frame squares.East)) (λ w. (measures square w).z) (λ w. (measures square w).z) (λ w. omega (arith, ints)) v vs))
    (sym (greatest_same (carried square (square_frame squares.East)) (λ w. (measures square w).x) (λ w. (measures square w).y) (λ w. omega (arith, ints)) v vs))
    (sym (greatest_opposite (carried square (square_frame squares.East)) (λ w. (measures square w).y) (λ w. (measures square w).x) (λ w. omega (arith, ints)) v vs))
    (sym (greatest_same (carried square (square_frame squares.East)) (λ w. (measures square w).z) (λ w. (measures square w).z) (λ w. omega (arith, ints)) v vs))

abbrev pub hexagonal_East : Extents → Extents
hexagonal_East e = reach (vector e.low.x e.low.y e.low.z) (vector e.high.x e.high.y e.high.z)

pub hexagonal_East-carried : (v : Vector) (vs : List Vector) → hexagonal_East (extents hexagonal v vs) ≡ extents hexagonal (carried hexagonal (hexagonal_frame hexagons.East) v) (map (carried hexagonal (hexagonal_frame hexagons.East)) vs)
hexagonal_East-carried v vs =
    same_reach _ _ _ _ _ _ _ _ _ _ _ _
    (sym (least_same (carried hexagonal (hexagonal_frame hexagons.East)) (λ w. (measures hexagonal w).x) (λ w. (measures hexagonal w).x) (λ w. omega (arith, ints)) v vs))
    (sym (least_same (carried hexagonal (hexagonal_frame hexagons.East)) (λ w. (measures hexagonal w).y) (λ w. (measures hexagonal w).y) (λ w. omega (arith, ints)) v vs))
    (sym (least_same (carried hexagonal (hexagonal_frame hexagons.East)) (λ w. (measures hexagonal w).z) (λ w. (measures hexagonal w).z) (λ w. omega (arith, ints)) v vs))
    (sym (greatest_same (carried hexagonal (hexagonal_frame hexagons.East)) (λ w. (measures hexagonal w).x) (λ w. (measures hexagonal w).x) (λ w. omega (arith, ints)) v vs))
    (sym (greatest_same (carried hexagonal (hexagonal_frame hexagons.East)) (λ w. (measures hexagonal w).y) (λ w. (measures hexagonal w).y) (λ w. omega (arith, ints)) v vs))
    (sym (greatest_same (carried hexagonal (hexagonal_frame hexagons.East)) (λ w. (measures hexagonal w).z) (λ w. (measures hexagonal w).z) (λ w. omega (arith, ints)) v vs))

abbrev pub hexagonal_NorthEast : Extents → Extents
hexagonal_NorthEast e = reach (vector (neg_ℤ e.high.y) e.low.z e.low.x) (vector (neg_ℤ e.low.y) e.high.z e.high.x)

pub hexagonal_NorthEast-carried : (v : Vector) (vs : List Vector) → hexagonal_NorthEast (extents hexagonal v vs) ≡ extents hexagonal (carried hexagonal (hexagonal_frame hexagons.NorthEast) v) (map (carried hexagonal (hexagonal_frame hexagons.NorthEast)) vs)
hexagonal_NorthEast-carried v vs =
    same_reach _ _ _ _ _ _ _ _ _ _ _ _
    (sym (least_opposite (carried hexagonal (hexagonal_frame hexagons.NorthEast)) (λ w. (measures hexagonal w).x) (λ w. (measures hexagonal w).y) (λ w. omega (arith, ints)) v vs))
    (sym (least_same (carried hexagonal (hexagonal_frame hexagons.NorthEast)) (λ w. (measures hexagonal w).y) (λ w. (measures hexagonal w).z) (λ w. omega (arith, ints)) v vs))
    (sym (least_same (carried hexagonal (hexagonal_frame hexagons.NorthEast)) (λ w. (measures hexagonal w).z) (λ w. (measures hexagonal w).x) (λ w. omega (arith, ints)) v vs))
    (sym (greatest_opposite (carried hexagonal (hexagonal_frame hexagons.NorthEast)) (λ w. (measures hexagonal w).x) (λ w. (measures hexagonal w).y) (λ w. omega (arith, ints)) v vs))
    (sym (greatest_same (carried hexagonal (hexagonal_frame hexagons.NorthEast)) (λ w. (measures hexagonal w).y) (λ w. (measures hexagonal w).z) (λ w. omega (arith, ints)) v vs))
    (sym (greatest_same (carried hexagonal (hexagonal_frame hexagons.NorthEast)) (λ w. (measures hexagonal w).z) (λ w. (measures hexagonal w).x) (λ w. omega (arith, ints)) v vs))

abbrev pub hexagonal_NorthWest : Extents → Extents
hexagonal_NorthWest e = reach (vector (neg_ℤ e.high.z) e.low.x (neg_ℤ e.high.y)) (vector (neg_ℤ e.low.z) e.high.x (neg_ℤ e.low.y))

pub hexagonal_NorthWest-carried : (v : Vector) (vs : List Vector) → hexagonal_NorthWest (extents hexagonal v vs) ≡ extents hexagonal (carried hexagonal (hexagonal_frame hexagons.NorthWest) v) (map (carried hexagonal (hexagonal_frame hexagons.NorthWest)) vs)
hexagonal_NorthWest-carried v vs =
    same_reach _ _ _ _ _ _ _ _ _ _ _ _
    (sym (least_opposite (carried hexagonal (hexagonal_frame hexagons.NorthWest)) (λ w. (measures hexagonal w).x) (λ w. (measures hexagonal w).z) (λ w. omega (arith, ints)) v vs))
    (sym (least_same (carried hexagonal (hexagonal_frame hexagons.NorthWest)) (λ w. (measures hexagonal w).y) (λ w. (measures hexagonal w).x) (λ w. omega (arith, ints)) v vs))
    (sym (least_opposite (carried hexagonal (hexagonal_frame hexagons.NorthWest)) (λ w. (measures hexagonal w).z) (λ w. (measures hexagonal w).y) (λ w. omega (arith, ints)) v vs))
    (sym (greatest_opposite (carried hexagonal (hexagonal_frame hexagons.NorthWest)) (λ w. (measures hexagonal w).x) (λ w. (measures hexagonal w).z) (λ w. omega (arith, ints)) v vs))
    (sym (greatest_same (carried hexagonal (hexagonal_frame hexagons.NorthWest)) (λ w. (measures hexagonal w).y) (λ w. (measures hexagonal w).x) (λ w. omega (arith, ints)) v vs))
    (sym (greatest_opposite (carried hexagonal (hexagonal_frame hexagons.NorthWest)) (λ w. (measures hexagonal w).z) (λ w. (measures hexagonal w).y) (λ w. omega (arith, ints)) v vs))

abbrev pub hexagonal_West : Extents → Extents
hexagonal_West e = reach (vector (neg_ℤ e.high.x) (neg_ℤ e.high.y) (neg_ℤ e.high.z)) (vector (neg_ℤ e.low.x) (neg_ℤ e.low.y) (neg_ℤ e.low.z))

pub hexagonal_West-carried : (v : Vector) (vs : List Vector) → hexagonal_West (extents hexagonal v vs) ≡ extents hexagonal (carried hexagonal (hexagonal_frame hexagons.West) v) (map (carried hexagonal (hexagonal_frame hexagons.West)) vs)
hexagonal_West-carried v vs =
    same_reach _ _ _ _ _ _ _ _ _ _ _ _
    (sym (least_opposite (carried hexagonal (hexagonal_frame hexagons.West)) (λ w. (measures hexagonal w).x) (λ w. (measures hexagonal w).x) (λ w. omega (arith, ints)) v vs))
    (sym (least_opposite (carried hexagonal (hexagonal_frame hexagons.West)) (λ w. (measures hexagonal w).y) (λ w. (measures hexagonal w).y) (λ w. omega (arith, ints)) v vs))
    (sym (least_opposite (carried hexagonal (hexagonal_frame hexagons.West)) (λ w. (measures hexagonal w).z) (λ w. (measures hexagonal w).z) (λ w. omega (arith, ints)) v vs))
    (sym (greatest_opposite (carried hexagonal (hexagonal_frame hexagons.West)) (λ w. (measures hexagonal w).x) (λ w. (measures hexagonal w).x) (λ w. omega (arith, ints)) v vs))
    (sym (greatest_opposite (carried hexagonal (hexagonal_frame hexagons.West)) (λ w. (measures hexagonal w).y) (λ w. (measures hexagonal w).y) (λ w. omega (arith, ints)) v vs))
    (sym (greatest_opposite (carried hexagonal (hexagonal_frame hexagons.West)) (λ w. (measures hexagonal w).z) (λ w. (measures hexagonal w).z) (λ w. omega (arith, ints)) v vs))

abbrev pub hexagonal_SouthWest : Extents → Extents
hexagonal_SouthWest e = reach (vector e.low.y (neg_ℤ e.high.z) (neg_ℤ e.high.x)) (vector e.high.y (neg_ℤ e.low.z) (neg_ℤ e.low.x))

pub hexagonal_SouthWest-carried : (v : Vector) (vs : List Vector) → hexagonal_SouthWest (extents hexagonal v vs) ≡ extents hexagonal (carried hexagonal (hexagonal_frame hexagons.SouthWest) v) (map (carried hexagonal (hexagonal_frame hexagons.SouthWest)) vs)
hexagonal_SouthWest-carried v vs =
    same_reach _ _ _ _ _ _ _ _ _ _ _ _
    (sym (least_same (carried hexagonal (hexagonal_frame hexagons.SouthWest)) (λ w. (measures hexagonal w).x) (λ w. (measures hexagonal w).y) (λ w. omega (arith, ints)) v vs))
    (sym (least_opposite (carried hexagonal (hexagonal_frame hexagons.SouthWest)) (λ w. (measures hexagonal w).y) (λ w. (measures hexagonal w).z) (λ w. omega (arith, ints)) v vs))
    (sym (least_opposite (carried hexagonal (hexagonal_frame hexagons.SouthWest)) (λ w. (measures hexagonal w).z) (λ w. (measures hexagonal w).x) (λ w. omega (arith, ints)) v vs))
    (sym (greatest_same (carried hexagonal (hexagonal_frame hexagons.SouthWest)) (λ w. (measures hexagonal w).x) (λ w. (measures hexagonal w).y) (λ w. omega (arith, ints)) v vs))
    (sym (greatest_opposite (carried hexagonal (hexagonal_frame hexagons.SouthWest)) (λ w. (measures hexagonal w).y) (λ w. (measures hexagonal w).z) (λ w. omega (arith, ints)) v vs))
    (sym (greatest_opposite (carried hexagonal (hexagonal_frame hexagons.SouthWest)) (λ w. (measures hexagonal w).z) (λ w. (measures hexagonal w).x) (λ w. omega (arith, ints)) v vs))

abbrev pub hexagonal_SouthEast : Extents → Extents
hexagonal_SouthEast e = reach (vector e.low.z (neg_ℤ e.high.x) e.low.y) (vector e.high.z (neg_ℤ e.low.x) e.high.y)

pub hexagonal_SouthEast-carried : (v : Vector) (vs : List Vector) → hexagonal_SouthEast (extents hexagonal v vs) ≡ extents hexagonal (carried hexagonal (hexagonal_frame hexagons.SouthEast) v) (map (carried hexagonal (hexagonal_frame hexagons.SouthEast)) vs)
hexagonal_SouthEast-carried v vs =
    same_reach _ _ _ _ _ _ _ _ _ _ _ _
    (sym (least_same (carried hexagonal (hexagonal_frame hexagons.SouthEast)) (λ w. (measures hexagonal w).x) (λ w. (measures hexagonal w).z) (λ w. omega (arith, ints)) v vs))
    (sym (least_opposite (carried hexagonal (hexagonal_frame hexagons.SouthEast)) (λ w. (measures hexagonal w).y) (λ w. (measures hexagonal w).x) (λ w. omega (arith, ints)) v vs))
    (sym (least_same (carried hexagonal (hexagonal_frame hexagons.SouthEast)) (λ w. (measures hexagonal w).z) (λ w. (measures hexagonal w).y) (λ w. omega (arith, ints)) v vs))
    (sym (greatest_same (carried hexagonal (hexagonal_frame hexagons.SouthEast)) (λ w. (measures hexagonal w).x) (λ w. (measures hexagonal w).z) (λ w. omega (arith, ints)) v vs))
    (sym (greatest_opposite (carried hexagonal (hexagonal_frame hexagons.SouthEast)) (λ w. (measures hexagonal w).y) (λ w. (measures hexagonal w).x) (λ w. omega (arith, ints)) v vs))
    (sym (greatest_same (carried hexagonal (hexagonal_frame hexagons.SouthEast)) (λ w. (measures hexagonal w).z) (λ w. (measures hexagonal w).y) (λ w. omega (arith, ints)) v vs))
