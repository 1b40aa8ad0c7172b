use Rattle.std.proofs.Common.{arith}
use Rattle.std.proofs.lemmas.Grind.{common_steps}
use Rattle.lsys_session.proofs.pictures.print_picture.Goals as goal

pub print_on-requires-in-Hexagonal-clause-lattice : goal.print_on-requires-in-Hexagonal-clause-lattice
print_on-requires-in-Hexagonal-clause-lattice g c = grind (arith, common_steps)
