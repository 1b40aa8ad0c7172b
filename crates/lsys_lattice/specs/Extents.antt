-- The least and the greatest values of the three measures of places.
use Rattle.std.specs.Prelude.{◌≡◌, ℤ, List, fold, map}
use Rattle.std.specs.Int.{int_min, int_max}
use Rattle.lsys_spec.specs.Lattices.{Lattice, Vector, vector, Frame}
use Rattle.lsys_lattice.specs.Rotations.{carried, measures}

pub record Extents : Type 0 where
  pub low : Vector
  pub high : Vector

-- the least and the greatest of what is measured, of a place and of others
abbrev pub least : (Vector → ℤ) → Vector → List Vector → ℤ
least measure v vs = fold int_min (measure v) (map measure vs)

abbrev pub greatest : (Vector → ℤ) → Vector → List Vector → ℤ
greatest measure v vs = fold int_max (measure v) (map measure vs)

-- the extents of a place and of others
abbrev pub extents : Lattice → Vector → List Vector → Extents
extents l v vs = record {
  low = vector (least (λ w. (measures l w).x) v vs) (least (λ w. (measures l w).y) v vs) (least (λ w. (measures l w).z) v vs);
  high = vector (greatest (λ w. (measures l w).x) v vs) (greatest (λ w. (measures l w).y) v vs) (greatest (λ w. (measures l w).z) v vs);
}

-- Of whatever places the first are the extents, the others are those of the places that the frame has carried.
abbrev pub AreCarried : Lattice → Frame → Extents → Extents → Type 0
AreCarried l f before after = (v : Vector) (vs : List Vector) → before ≡ extents l v vs → after ≡ extents l (carried l f v) (map (carried l f) vs)
