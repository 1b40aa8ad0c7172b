use Rattle.std.proofs.Common.{subst}
use Rattle.lsys_io.specs.Writes.{WasPut}
use Rattle.lsys_spec.specs.PictureTexts.{place_text}
use Rattle.lsys_cli.proofs.picture_reply.put_heading.Goals as goal

pub returns : goal.returns
returns g c =
    subst (λ v. WasPut g.K.Sink.written g.K.Sink.faults c.args.sink.now c.put_place.new.sink c.args.out.now c.put_place.new.out (place_text v) c.put_place.result) c.heading-heading.ensures c.put_place.ensures
