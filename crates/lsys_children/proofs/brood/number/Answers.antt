use Rattle.std.proofs.Common.{arith}
use Rattle.std.proofs.lemmas.Grind.{elements}
use Rattle.lsys_children.proofs.brood.number.Goals as goal

pub returns : goal.returns
returns g c = grind (arith, elements)
