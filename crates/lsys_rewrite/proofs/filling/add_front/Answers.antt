use Rattle.std.proofs.Common.{arith}
use Rattle.std.proofs.lemmas.Grind.{common_steps}
use Rattle.lsys_rewrite.proofs.filling.add_front.Goals as goal

pub loop-template-preserved : goal.loop-template-preserved
loop-template-preserved c = grind (arith, common_steps)
