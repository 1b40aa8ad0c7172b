use Rattle.std.proofs.Common.{arith}
use Rattle.std.proofs.lemmas.Grind.{elements}
use Rattle.lsys_bodies.proofs.formals.FormalNames.is_unknown.Goals as goal

pub returns-in-Name : goal.returns-in-Name
returns-in-Name c = grind (arith, elements)
