-- The box of a picture, point by point.
use Rattle.std.specs.Prelude.{◌≡◌, ℤ, pos, ◌+ℤ◌, ◌-ℤ◌, ◌+◌, Some, None, Result, Ok, Err, List, length, fold}
use Rattle.std.specs.Int.{int_min, int_max}
use Rattle.lsys_spec.specs.Lattices.{Lattice, projected}
use Rattle.lsys_spec.specs.Pictures.{Segment, Box, box, origin}
use Rattle.lsys_out.specs.Drawings.{Drawing, IsRefusal}
use Rattle.lsys_spec.specs.Pictures as P
use Rattle.lsys_out.specs.declared.extent.Extent.{Extent}
use Rattle.lsys_out.specs.declared.survey.Survey.{Survey}
use Rattle.lsys_out.specs.declared.refusal.PictureRefusal.{PictureRefusal}

-- one point alone
abbrev pub extent_at : ℤ × ℤ → Extent
extent_at p = record { left = p.0; right = p.0; top = p.1; bottom = p.1 }

-- with one point more
abbrev pub extended : Extent → ℤ × ℤ → Extent
extended e p = record { left = int_min e.left p.0; right = int_max e.right p.0; top = int_min e.top p.1; bottom = int_max e.bottom p.1 }

-- with both ends of a segment
abbrev pub extended_by : Lattice → Extent → Segment → Extent
extended_by l e g = extended (extended e (projected l g.from)) (projected l g.to)

-- around the origin and both ends of all these segments
abbrev pub extent_of : Lattice → List Segment → Extent
extent_of l gs = fold (extended_by l) (extent_at (projected l origin)) gs

-- the box of an extent, with its margin of 10
abbrev pub box_of : Extent → Box
box_of e = record { x = e.left -ℤ pos 10; y = e.top -ℤ pos 10; width = e.right -ℤ e.left +ℤ pos 20; height = e.bottom -ℤ e.top +ℤ pos 20 }

-- the number of segments and the extent, with one segment more
abbrev pub surveyed_with : Lattice → Survey → Segment → Survey
surveyed_with l s g = record { count = s.count + 1; extent = extended_by l s.extent g }

-- all segments are counted, and the box is theirs; or the picture is refused
abbrev pub IsSurveyed : Lattice → Drawing → Result Survey PictureRefusal → Type 0
IsSurveyed l d (Ok s) = (d.refusal ≡ None) × (s.count ≡ length d.segments) × (box_of s.extent ≡ box l d.segments)
IsSurveyed l d (Err e) = (r : P.PictureRefusal) × IsRefusal r e × (d.refusal ≡ Some r)
