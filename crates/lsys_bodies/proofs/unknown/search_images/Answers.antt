use Rattle.std.proofs.lemmas.Result.{err_from_is_err_and}
use Rattle.lsys_text.specs.Tokens.{kind_row}
use Rattle.lsys_bodies.proofs.Searches.{images-item, image-room, image-more, image-found, images-done, pieces}
use Rattle.lsys_bodies.proofs.unknown.search_images.Goals as goal

pub search_image-requires-clause-expressions : goal.search_image-requires-clause-expressions
search_image-requires-clause-expressions c = images-item (kind_row c.args.tokens.now) c.args.images.now c.loop-image.image-index c.image-item.result c.loop-image-test.true c.image-item.is c.requires.expressions

pub search_image-requires-clause-room : goal.search_image-requires-clause-room
search_image-requires-clause-room c =
    let ks = kind_row c.args.tokens.now in
    image-room ks (pieces ks c.args.images.now) c.args.images.now c.loop-image.image-index c.image-item.result c.loop-image-test.true c.image-item.is c.loop-image.invariant _ c.requires.room

pub returns-in_err-end : goal.returns-in_err-end
returns-in_err-end c =
    let ks = kind_row c.args.tokens.now in
    let p = err_from_is_err_and c.from_residual.result c.from_residual.ensures.1 in
    rw (p.1, p.2) (image-found ks (pieces ks c.args.images.now) c.args.images.now c.loop-image.image-index c.image-item.result c.loop-image-test.true c.image-item.is c.loop-image.invariant c.in_err-end.ensures)

pub loop-image-preserved : goal.loop-image-preserved
loop-image-preserved c =
    let ks = kind_row c.args.tokens.now in
    image-more ks (pieces ks c.args.images.now) c.args.images.now c.loop-image.image-index c.image-item.result c.loop-image-test.true c.image-item.is c.loop-image.invariant c.in_ok-end.ensures

pub returns : goal.returns
returns c =
    let ks = kind_row c.args.tokens.now in
    images-done ks (pieces ks c.args.images.now) c.args.images.now c.loop-image.image-index c.loop-image-test.false c.loop-image.invariant
