-- A survey of the segments so far.
use Rattle.std.proofs.Common.{◌≡◌, ◌+◌, Ok, length, fold, ap, sym, ◌∙◌, arith}
use Rattle.lsys_spec.specs.Lattices.{Lattice, projected}
use Rattle.lsys_spec.specs.Pictures.{origin}
use Rattle.lsys_out.specs.Boxes.{IsSurveyed, box_of, extended_by, extent_at, extent_of}
use Rattle.lsys_out.specs.Drawings.{Drawing, empty_drawing}
use Rattle.lsys_out.specs.declared.survey.Survey.{Survey}
use Rattle.lsys_out.proofs.Extents.{box_along}

-- what is surveyed, and what is still to come, are the whole picture
pub record Surveying (l : Lattice) (whole rest : Drawing) (s : Survey) : Type 0 where
  pub count : s.count + length rest.segments ≡ length whole.segments
  pub extent : fold (extended_by l) s.extent rest.segments ≡ extent_of l whole.segments
  pub refusal : rest.refusal ≡ whole.refusal

pub surveying_none : (l : Lattice) (whole rest : Drawing) (s : Survey) → rest ≡ whole → s ≡ record { count = 0; extent = extent_at (projected l origin) } → Surveying l whole rest s
surveying_none l whole rest s e f = record {
  count = omega (arith, ap (λ (d : Drawing). length d.segments) e, ap (λ (s : Survey). s.count) f);
  extent = ap (λ (d : Drawing). fold (extended_by l) s.extent d.segments) e ∙ ap (λ (s : Survey). fold (extended_by l) s.extent whole.segments) f;
  refusal = ap (λ (d : Drawing). d.refusal) e;
}

pub surveying_all : (l : Lattice) (whole rest : Drawing) (s : Survey) → Surveying l whole rest s → rest ≡ empty_drawing → IsSurveyed l whole (Ok s)
surveying_all l whole rest s h e = (
  sym h.refusal ∙ ap (λ (d : Drawing). d.refusal) e,
  omega (arith, h.count, ap (λ (d : Drawing). length d.segments) e),
  ap box_of (ap (λ (d : Drawing). fold (extended_by l) s.extent d.segments) (sym e) ∙ h.extent) ∙ box_along l whole.segments,
)
