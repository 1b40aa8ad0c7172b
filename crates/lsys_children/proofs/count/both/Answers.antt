use Rattle.std.proofs.Common.{arith}
use Rattle.std.proofs.lemmas.Grind.{elements}
use Rattle.lsys_children.proofs.count.both.Goals as goal

pub returns : goal.returns
returns c = grind (arith, elements)
