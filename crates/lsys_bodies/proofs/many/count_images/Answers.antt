use Rattle.std.proofs.lemmas.Result.{err_from_is_err_and}
use Rattle.lsys_syntax.specs.Expressions.{expr_pieces}
use Rattle.lsys_reading.specs.Images.{image_at}
use Rattle.lsys_bodies.proofs.Searches.{images-item}
use Rattle.lsys_bodies.proofs.CountLoops.{symbols, symbol-more, symbol-passed, symbols-done}
use Rattle.lsys_bodies.proofs.many.count_images.Goals as goal

pub returns-in_err-counted : goal.returns-in_err-counted
returns-in_err-counted c ks h =
    let xs = c.args.images.now in
    let i = c.loop-image.image-index in
    let p = err_from_is_err_and c.from_residual.result c.from_residual.ensures.1 in
    rw (p.1, p.2) (symbol-passed expr_pieces (image_at ks) (symbols expr_pieces (image_at ks) xs) xs i c.image-item.result c.loop-image-test.true c.image-item.is (c.loop-image.invariant ks h)
    (c.in_err-counted.ensures ks (images-item ks xs i c.image-item.result c.loop-image-test.true c.image-item.is h)))

pub loop-image-preserved : goal.loop-image-preserved
loop-image-preserved c ks h =
    let xs = c.args.images.now in
    let i = c.loop-image.image-index in
    symbol-more expr_pieces (image_at ks) (symbols expr_pieces (image_at ks) xs) xs i c.image-item.result c.loop-image-test.true c.image-item.is (c.loop-image.invariant ks h)
    (c.in_ok-counted.ensures ks (images-item ks xs i c.image-item.result c.loop-image-test.true c.image-item.is h))

pub returns : goal.returns
returns c ks h = symbols-done expr_pieces (image_at ks) (symbols expr_pieces (image_at ks) c.args.images.now) c.args.images.now c.loop-image.image-index c.loop-image-test.false (c.loop-image.invariant ks h)
