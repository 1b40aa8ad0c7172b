use Rattle.std.proofs.Common.{arith}
use Rattle.std.proofs.lemmas.Grind.{elements}
use Rattle.lsys_children.proofs.brood.take.Goals as goal

pub returns-clause-left : goal.returns-clause-left
returns-clause-left c = grind (arith, elements)
