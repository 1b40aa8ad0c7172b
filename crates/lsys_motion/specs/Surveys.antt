-- How far a picture reaches, segment by segment.
use Rattle.std.specs.Prelude.{◌≡◌, None, Some, Result, Ok, Err}
use Rattle.std.specs.Int.{int_min, int_max}
use Rattle.lsys_spec.specs.Lattices.{Lattice, Vector}
use Rattle.lsys_spec.specs.Pictures.{Segment}
use Rattle.lsys_spec.specs.Pictures as P
use Rattle.lsys_lattice.specs.Rotations.{measures}
use Rattle.lsys_lattice.specs.Extents.{Extents}
use Rattle.lsys_lattice.specs.Bounds.{bounds_of}
use Rattle.lsys_lattice.specs.Motions.{each_of}
use Rattle.lsys_lattice.specs.Wide.{extents_of}
use Rattle.lsys_lattice.specs.declared.wide.Extents.{Extents as WideExtents}
use Rattle.lsys_out.specs.Drawings.{Drawing, IsRefusal}
use Rattle.lsys_out.specs.declared.refusal.PictureRefusal.{PictureRefusal}

-- with one place more
abbrev pub with_place : Lattice → Extents → Vector → Extents
with_place l e v = record { low = each_of int_min e.low (measures l v); high = each_of int_max e.high (measures l v) }

-- with both ends of a segment
abbrev pub with_ends : Lattice → Extents → Segment → Extents
with_ends l e g = with_place l (with_place l e g.from) g.to

-- these are the bounds of a picture; or the picture is refused
abbrev pub AreBoundsOf : Lattice → Drawing → Result WideExtents PictureRefusal → Type 0
AreBoundsOf l d (Ok e) = (d.refusal ≡ None) × (extents_of e ≡ bounds_of l d.segments)
AreBoundsOf l d (Err e) = (r : P.PictureRefusal) × IsRefusal r e × (d.refusal ≡ Some r)
