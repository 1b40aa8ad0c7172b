use Rattle.std.proofs.Common.{length, refl}
use Rattle.std.proofs.lemmas.Option.{slice_get_read}
use Rattle.lsys_laws.proofs.Placed.{got_in}
use Rattle.lsys_children.proofs.brood.take_out.Goals as goal

pub number-requires-clause-lives : goal.number-requires-clause-lives
number-requires-clause-lives g c =
    let here = slice_get_read c.args.gone.now (length c.args.gone.now) c.loop-node.node-index c.node-item.result refl c.loop-node-test.true c.node-item.is in
    (c.requires.gone c.node-item.result (got_in c.args.gone.now c.loop-node.node-index c.node-item.result here)).0

pub number-requires-clause-other : goal.number-requires-clause-other
number-requires-clause-other g c =
    let here = slice_get_read c.args.gone.now (length c.args.gone.now) c.loop-node.node-index c.node-item.result refl c.loop-node-test.true c.node-item.is in
    (c.requires.gone c.node-item.result (got_in c.args.gone.now c.loop-node.node-index c.node-item.result here)).1
