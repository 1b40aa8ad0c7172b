use Rattle.std.proofs.Common.{arith}
use Rattle.std.proofs.lemmas.Grind.{elements, common_steps}
use Rattle.lsys_children.proofs.brood.find_same.Goals as goal

pub loop-kid-preserved : goal.loop-kid-preserved
loop-kid-preserved c = grind (arith, common_steps)

pub returns-clause-found : goal.returns-clause-found
returns-clause-found c = grind (arith, elements)
