use Rattle.std.proofs.Common.{arith}
use Rattle.std.proofs.lemmas.Grind.{common_steps}
use Rattle.lsys_bodies.proofs.counter.RuleCounts.next_passes.Goals as goal

pub returns-else-params-gt-MOST_PARAMS : goal.returns-else-params-gt-MOST_PARAMS
returns-else-params-gt-MOST_PARAMS c = grind (arith, common_steps)
