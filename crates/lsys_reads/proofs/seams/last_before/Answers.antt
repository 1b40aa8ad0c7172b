use Rattle.lsys_reads.proofs.SeamLemmas.{left_spot, before_some, before_none}
use Rattle.lsys_reads.proofs.seams.last_before.Goals as goal

pub last_below-requires : goal.last_below-requires
last_below-requires g c = left_spot c.args.forest.now c.args.node c.in-Some.left c.requires c.in-Some.ensures

pub returns-in-Some : goal.returns-in-Some
returns-in-Some g c = before_some c.args.forest.now c.args.node c.in-Some.left c.last_below.result c.requires c.in-Some.ensures c.last_below.ensures

pub returns-in-None : goal.returns-in-None
returns-in-None g c = before_none c.args.forest.now c.args.node c.in-None.ensures
