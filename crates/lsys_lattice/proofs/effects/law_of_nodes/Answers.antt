use Rattle.lsys_lattice.proofs.Nodes.{part_below}
use Rattle.lsys_lattice.proofs.effects.law_of_nodes.Goals as goal

pub returns : goal.returns
returns c s t before part after y b = part_below s b t before part after y
