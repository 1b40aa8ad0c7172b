use Rattle.lsys_reads.proofs.SeamLemmas.{right_spot, after_some, after_none}
use Rattle.lsys_reads.proofs.seams.first_after.Goals as goal

pub first_below-requires : goal.first_below-requires
first_below-requires g c = right_spot c.args.forest.now c.args.node c.in-Some.right c.in-Some.ensures

pub returns-in-Some : goal.returns-in-Some
returns-in-Some g c = after_some c.args.forest.now c.args.node c.in-Some.right c.first_below.result c.requires c.in-Some.ensures c.first_below.ensures

pub returns-in-None : goal.returns-in-None
returns-in-None g c = after_none c.args.forest.now c.args.node c.requires c.in-None.ensures
