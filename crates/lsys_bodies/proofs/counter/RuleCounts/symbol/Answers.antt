use Rattle.lsys_bodies.proofs.Counted.{counts-symbol}
use Rattle.lsys_bodies.proofs.counter.RuleCounts.symbol.Goals as goal

pub returns : goal.returns
returns c k = counts-symbol c.args.self k c.one_more.result c.one_more.ensures
