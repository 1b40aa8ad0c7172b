use Rattle.lsys_spec.proofs.Turns.{turn_by-pos}
use Rattle.lsys_spec.proofs.lattices.law_of_counted_turns.Goals as goal

pub returns : goal.returns
returns c lattice turn n f = turn_by-pos lattice turn n f
