use Rattle.lsys_lattice.proofs.Nodes.{middle_part}
use Rattle.lsys_lattice.proofs.effects.law_of_parts.Goals as goal

pub returns : goal.returns
returns c = middle_part
