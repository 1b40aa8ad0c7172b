use Rattle.std.proofs.Common.{arith}
use Rattle.std.proofs.lemmas.Grind.{elements}
use Rattle.lsys_lattice.proofs.square.SquareLattice.turn.Goals as goal

pub returns-in-Left : goal.returns-in-Left
returns-in-Left c = grind (arith, elements)
