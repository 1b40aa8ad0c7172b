use Rattle.std.proofs.Common.{List, drop}
use Rattle.lsys_syntax.specs.Tokens.{Kind}
use Rattle.lsys_syntax.specs.Expressions.{expr_pieces}
use Rattle.lsys_reading.specs.Images.{ImagesAreAt, image_at}
use Rattle.lsys_bodies.specs.Counting.{counts_of}
use Rattle.lsys_bodies.proofs.CountLoops.{CountGoes, symbols}
use Rattle.lsys_bodies.proofs.many.count_images.Given as goal

abbrev pub invariant-loop-image : goal.invariant-loop-image
invariant-loop-image l = (ks : List Kind) → ImagesAreAt ks l.images → CountGoes (counts_of l.fn.counter) (symbols expr_pieces (image_at ks) l.images) l.counted (symbols expr_pieces (image_at ks) (drop l.image-index l.images))
