use Rattle.std.proofs.Common.{arith}
use Rattle.std.proofs.lemmas.Grind.{elements}
use Rattle.lsys_forest.proofs.walk.nest.Goals as goal

pub returns-in-Right-Pop : goal.returns-in-Right-Pop
returns-in-Right-Pop c = grind (arith, elements)
