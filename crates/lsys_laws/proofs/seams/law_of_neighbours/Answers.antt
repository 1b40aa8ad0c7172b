use Rattle.lsys_laws.proofs.Mirrors.{right_neighbour, left_neighbour}
use Rattle.lsys_laws.proofs.seams.law_of_neighbours.Goals as goal

pub returns : goal.returns
returns c = record { right = right_neighbour; left = left_neighbour }
