-- Vectors with wide coordinates, how large they are, and extents.
use Rattle.std.specs.Prelude.{ℕ, ◌<◌, ◌^◌, ℤ, pos, negsuc, neg_ℤ, unsigned_abs, if◌then◌else◌}
use Rattle.std.specs.Ordering.{int_eq}
use Rattle.lsys_spec.specs.Lattices.{Vector, vector}
use Rattle.lsys_lattice.specs.Extents.{Extents}
use Rattle.lsys_lattice.specs.declared.wide.Vector.{Vector as Wide}
use Rattle.lsys_lattice.specs.declared.wide.Extents.{Extents as WideExtents}
use Rattle.lsys_lattice.specs.declared.wide.Stretched.{Stretched}

abbrev pub wide_of : Wide → Vector
wide_of v = vector v.x v.y v.z

-- each coordinate is below 2^n in magnitude
pub record IsBelow (n : ℕ) (v : Vector) : Type 0 where
  pub x : unsigned_abs v.x < 2 ^ n
  pub y : unsigned_abs v.y < 2 ^ n
  pub z : unsigned_abs v.z < 2 ^ n

abbrev pub extents_of : WideExtents → Extents
extents_of e = record { low = wide_of e.low; high = wide_of e.high }

-- each of the six values is below 2^n in magnitude
pub record AreBelow (n : ℕ) (e : Extents) : Type 0 where
  pub low : IsBelow n e.low
  pub high : IsBelow n e.high

-- the extents, by the least and the greatest value of each measure
abbrev pub spanned : Stretched → Stretched → Stretched → Extents
spanned first second third = record { low = vector first.low second.low third.low; high = vector first.high second.high third.high }

-- both values are below 2^100 in magnitude
pub record IsShort (s : Stretched) : Type 0 where
  pub low : unsigned_abs s.low < 2 ^ 100
  pub high : unsigned_abs s.high < 2 ^ 100

-- the least and the greatest of what is measured, where a measure of n is taken of values in a span; n is 1, -1 or 0
abbrev pub least_by : ℤ → ℤ → ℤ → ℤ
least_by n low high = if int_eq n (pos 1) then low else if int_eq n (negsuc 0) then neg_ℤ high else pos 0

abbrev pub greatest_by : ℤ → ℤ → ℤ → ℤ
greatest_by n low high = if int_eq n (pos 1) then high else if int_eq n (negsuc 0) then neg_ℤ low else pos 0

-- the extents of places in a direction along an axis, as many steps from the origin as a span tells
abbrev pub shared : Vector → ℤ → ℤ → Extents
shared d low high = record {
  low = vector (least_by d.x low high) (least_by d.y low high) (least_by d.z low high);
  high = vector (greatest_by d.x low high) (greatest_by d.y low high) (greatest_by d.z low high);
}
