use Rattle.std.proofs.Common.{arith}
use Rattle.std.proofs.lemmas.Grind.{elements}
use Rattle.lsys_lattice.proofs.square.SquareLattice.follow.Goals as goal

pub returns-in-West : goal.returns-in-West
returns-in-West c = grind (arith, elements)
