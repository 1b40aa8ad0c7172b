-- What a call leaves that shows a picture.
use Rattle.std.specs.Prelude.{◌≡◌, ℕ, Option, Result, Ok, Err, List}
use Rattle.lsys_spec.specs.Systems.{System}
use Rattle.lsys_spec.specs.Lattices.{Lattice}
use Rattle.lsys_spec.specs.Pictures.{Segment, PictureRefusal}
use Rattle.lsys_io.specs.Writes.{WasPut}
use Rattle.lsys_io.specs.declared.Failed.{Failed}
use Rattle.lsys_out.specs.Drawings.{IsRefusal}
use Rattle.lsys_out.specs.declared.refusal.PictureRefusal.{PictureRefusal as Refusal}
use Rattle.lsys_out.specs.declared.refusal.PictureRefusal.TheVariants as refusals

-- the system on a lattice, which takes the place of its own
abbrev pub on_lattice : Lattice → System → System
on_lattice l s = record s { lattice = l }

-- there is a picture, and its text was put, or the sink failed
pub record PutsPicture {K A : Type 0} (written : K → Option (List ℕ)) (faults : K → ℕ) (sink_old sink_new : K) (held_old held_new : List ℕ) (picture : Result (List Segment) PictureRefusal)
    (text : List Segment → List ℕ) (result : Result A Failed) : Type 0 where
  pub segments : List Segment
  pub drawn : picture ≡ Ok segments
  pub put : WasPut written faults sink_old sink_new held_old held_new (text segments) result

-- the picture is refused, and nothing was put
pub record RefusesPicture {K : Type 0} (sink_old sink_new : K) (held_old held_new : List ℕ) (picture : Result (List Segment) PictureRefusal) (e : Refusal) : Type 0 where
  pub refusal : PictureRefusal
  pub is : IsRefusal refusal e
  pub refused : picture ≡ Err refusal
  pub sink_stays : sink_new ≡ sink_old
  pub held_stays : held_new ≡ held_old

-- The picture's text was put after the bytes that are held; or the picture is refused, and nothing was put; or the sink
-- failed, and a front of the text was put.
abbrev pub Shows : {K : Type 0} → (K → Option (List ℕ)) → (K → ℕ) → K → K → List ℕ → List ℕ → Result (List Segment) PictureRefusal → (List Segment → List ℕ) → Result (Unit {0}) Refusal
    → Type 0
Shows written faults sink_old sink_new held_old held_new picture text (Ok u) = PutsPicture {A = Unit {0}} written faults sink_old sink_new held_old held_new picture text (Ok tt)
Shows written faults sink_old sink_new held_old held_new picture text (Err refusals.Failed) =
    (failed : Failed) × PutsPicture {A = Unit {0}} written faults sink_old sink_new held_old held_new picture text (Err failed)
Shows written faults sink_old sink_new held_old held_new picture text (Err (refusals.Image e)) = RefusesPicture sink_old sink_new held_old held_new picture (refusals.Image e)
Shows written faults sink_old sink_new held_old held_new picture text (Err (refusals.Far n)) = RefusesPicture sink_old sink_new held_old held_new picture (refusals.Far n)
