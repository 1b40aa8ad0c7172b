use Rattle.std.proofs.Common.{rules}
use Rattle.lsys_lattice.proofs.hexagonal.HexagonalLattice.measures.Goals as goal

pub returns : goal.returns
returns c = search rules
