use Rattle.lsys_spec.proofs.Turns.{turn_by-neg}
use Rattle.lsys_spec.proofs.lattices.law_of_negative_counts.Goals as goal

pub returns : goal.returns
returns c lattice turn n f = turn_by-neg lattice turn n f
