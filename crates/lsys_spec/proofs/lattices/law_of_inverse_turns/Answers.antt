use Rattle.lsys_spec.proofs.Turns.{turned_back}
use Rattle.lsys_spec.proofs.lattices.law_of_inverse_turns.Goals as goal

pub returns : goal.returns
returns c lattice turn f = turned_back lattice turn f
