use Rattle.std.proofs.Common.{arith}
use Rattle.std.proofs.lemmas.Grind.{common_steps}
use Rattle.lsys_growth.proofs.counting.times_in_successor.Goals as goal

pub loop-template-preserved : goal.loop-template-preserved
loop-template-preserved c = grind (arith, common_steps)
