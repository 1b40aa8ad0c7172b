use Rattle.std.proofs.Common.{◌<◌, length, arith}
use Rattle.std.proofs.lemmas.List.{length-map}
use Rattle.lsys_reading.specs.Images.{image_at, images_at}
use Rattle.lsys_bodies.proofs.CountLoops.{successor-whole, section-is}
use Rattle.lsys_bodies.proofs.many.count_successor.Goals as goal

pub returns : goal.returns
returns c ks h =
    let some : 0 < length (images_at ks c.args.images.now) = grind (arith, length-map c.args.images.now (image_at ks)) in
    let s = c.section.ensures in
    successor-whole c.args.counter c.section.result (images_at ks c.args.images.now) some s.tokens (section-is c.args.counter c.section.result 128 s.tokens s.symbols s.most s.params) (c.count_images.ensures ks h)
