-- What a call leaves that shows a picture.
use Rattle.std.proofs.Common.{◌≡◌, ℕ, Result, Err, List, refl}
use Rattle.std.specs.Prelude.{Option}
use Rattle.lsys_spec.specs.Pictures.{Segment, PictureRefusal}
use Rattle.lsys_out.specs.Drawings.{IsRefusal}
use Rattle.lsys_out.specs.Shown.{Shows}
use Rattle.lsys_out.specs.declared.refusal.PictureRefusal.{PictureRefusal as Refusal}
use Rattle.lsys_out.specs.declared.refusal.PictureRefusal.TheVariants as refusals

-- the picture is refused, and nothing was put
pub shows_refused : {K : Type 0} (written : K → Option (List ℕ)) (faults : K → ℕ) (sink : K) (held : List ℕ) (picture : Result (List Segment) PictureRefusal) (text : List Segment → List ℕ)
    (r : PictureRefusal) (e : Refusal) → IsRefusal r e → picture ≡ Err r → Shows written faults sink sink held held picture text (Err e)
shows_refused written faults sink held picture text r (refusals.Image q) is h = record { refusal = r; is = is; refused = h; sink_stays = refl; held_stays = refl }
shows_refused written faults sink held picture text r (refusals.Far n) is h = record { refusal = r; is = is; refused = h; sink_stays = refl; held_stays = refl }
shows_refused written faults sink held picture text r refusals.Failed is h = absurd is
