-- A survey of the segments so far.
use Rattle.std.proofs.Common.{◌≡◌, Ok, List, [], ◌∷◌, fold, map, refl, ap, sym, ◌∙◌}
use Rattle.std.specs.Prelude.{ℤ}
use Rattle.std.specs.Int.{int_min, int_max}
use Rattle.lsys_spec.specs.Lattices.{Lattice, Vector, vector}
use Rattle.lsys_spec.specs.Pictures.{Segment, origin}
use Rattle.lsys_lattice.specs.Rotations.{measures}
use Rattle.lsys_lattice.specs.Extents.{Extents, extents}
use Rattle.lsys_lattice.specs.Free.{ends_of}
use Rattle.lsys_lattice.specs.Bounds.{bounds_of}
use Rattle.lsys_lattice.specs.Wide.{extents_of}
use Rattle.lsys_lattice.specs.declared.wide.Extents.{Extents as WideExtents}
use Rattle.lsys_out.specs.Drawings.{Drawing, empty_drawing}
use Rattle.lsys_motion.specs.Surveys.{AreBoundsOf, with_place, with_ends}

-- one place after another

abbrev reach : ℤ → ℤ → ℤ → ℤ → ℤ → ℤ → Extents
reach a b c d e f = record { low = vector a b c; high = vector d e f }

along : (l : Lattice) (a b c d e f : ℤ) (vs : List Vector) → fold (with_place l) (reach a b c d e f) vs
    ≡ reach (fold int_min a (map (λ w. (measures l w).x) vs)) (fold int_min b (map (λ w. (measures l w).y) vs)) (fold int_min c (map (λ w. (measures l w).z) vs))
    (fold int_max d (map (λ w. (measures l w).x) vs)) (fold int_max e (map (λ w. (measures l w).y) vs)) (fold int_max f (map (λ w. (measures l w).z) vs))
along l a b c d e f [] = refl
along l a b c d e f (v ∷ vs) =
    let m = measures l v in along l (int_min a m.x) (int_min b m.y) (int_min c m.z) (int_max d m.x) (int_max e m.y) (int_max f m.z) vs

by_segments : (l : Lattice) (e : Extents) (gs : List Segment) → fold (with_ends l) e gs ≡ fold (with_place l) e (ends_of gs)
by_segments l e [] = refl
by_segments l e (g ∷ gs) = by_segments l (with_ends l e g) gs

pub bounds_along : (l : Lattice) (gs : List Segment) → fold (with_ends l) (extents l origin []) gs ≡ bounds_of l gs
bounds_along l gs =
    let m = measures l origin in by_segments l (extents l origin []) gs ∙ along l m.x m.y m.z m.x m.y m.z (ends_of gs)

-- what is surveyed, and what is still to come, are the whole picture
pub record Surveying (l : Lattice) (whole rest : Drawing) (e : WideExtents) : Type 0 where
  pub bounds : fold (with_ends l) (extents_of e) rest.segments ≡ bounds_of l whole.segments
  pub refusal : rest.refusal ≡ whole.refusal

pub surveying_none : (l : Lattice) (whole rest : Drawing) (e : WideExtents) → rest ≡ whole → extents_of e ≡ extents l origin [] → Surveying l whole rest e
surveying_none l whole rest e same start = record {
  bounds = ap (λ (d : Drawing). fold (with_ends l) (extents_of e) d.segments) same ∙ ap (λ (x : Extents). fold (with_ends l) x whole.segments) start ∙ bounds_along l whole.segments;
  refusal = ap (λ (d : Drawing). d.refusal) same;
}

pub surveying_all : (l : Lattice) (whole rest : Drawing) (e : WideExtents) → Surveying l whole rest e → rest ≡ empty_drawing → AreBoundsOf l whole (Ok e)
surveying_all l whole rest e h same = (
  sym h.refusal ∙ ap (λ (d : Drawing). d.refusal) same,
  ap (λ (d : Drawing). fold (with_ends l) (extents_of e) d.segments) (sym same) ∙ h.bounds,
)
