use Rattle.lsys_spec.proofs.CostSums.{one_line, last_line, both_within}
use Rattle.lsys_spec.proofs.costs.law_of_costs.Goals as goal

pub returns : goal.returns
returns c = record { line = one_line; end = last_line; within = both_within }
