use Rattle.lsys_spec.proofs.Turns.{full_turn_back}
use Rattle.lsys_spec.proofs.lattices.law_of_full_turns.Goals as goal

pub returns : goal.returns
returns c lattice turn f = full_turn_back lattice turn f
