use Rattle.std.proofs.Common.{arith}
use Rattle.std.proofs.lemmas.Grind.{common_steps}
use Rattle.lsys_front.proofs.others.all_alike_for.Goals as goal

pub loop-rule-preserved : goal.loop-rule-preserved
loop-rule-preserved c = grind (arith, common_steps)

pub returns-then-not-branch-clause-alike : goal.returns-then-not-branch-clause-alike
returns-then-not-branch-clause-alike c = grind (arith, common_steps)
