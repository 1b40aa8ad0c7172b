use Rattle.lsys_bodies.proofs.Counted.{counts-one, few-params}
use Rattle.lsys_bodies.proofs.counter.RuleCounts.mark.Goals as goal

pub returns-clause-counted : goal.returns-clause-counted
returns-clause-counted c k = counts-one c.args.self c.args.self.symbols c.args.self.params k c.one_more.result c.one_more.ensures

pub returns-clause-few : goal.returns-clause-few
returns-clause-few c = few-params c.args.self c.one_more.result c.one_more.ensures
