use Rattle.lsys_pass.proofs.Settling.{settled_both}
use Rattle.lsys_pass.proofs.read.settle_listed.Goals as goal

pub returns-clause-settled : goal.returns-clause-settled
returns-clause-settled c = settled_both c.args.reads.now c.forget.new.self c.settle.new.self c.args.renewed.now c.args.dropped.now c.forget.ensures.settled c.forget.ensures.pending c.settle.ensures.settled
