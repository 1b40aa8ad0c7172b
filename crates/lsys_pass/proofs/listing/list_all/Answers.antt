use Rattle.std.proofs.Common.{[], refl}
use Rattle.lsys_pass.proofs.Listed.{above_begins, above_goes_on, readers_listed}
use Rattle.lsys_pass.proofs.listing.list_all.Goals as goal

pub loop-level-init : goal.loop-level-init
loop-level-init g c = above_begins c.args.forest.now c.args.store.now c.args.depth c.new-reads.result c.new-reads.ensures.settled c.new-reads.ensures.pending

pub loop-level-preserved : goal.loop-level-preserved
loop-level-preserved g c =
    above_goes_on c.args.forest.now c.args.store.now c.args.depth c.loop-level.level c.loop-level.reads c.list_on.new.reads
    c.loop-level.invariant c.loop-level-test.true c.list_on.ensures.settled c.in_ok-list_on.ensures.ok

pub returns-clause-readers : goal.returns-clause-readers
returns-clause-readers g c =
    readers_listed c.args.forest.now c.args.store.now c.args.depth c.loop-level.level c.loop-level.reads c.settle.new.self [] c.requires
    c.loop-level.invariant c.loop-level-test.false refl c.settle.ensures.settled
