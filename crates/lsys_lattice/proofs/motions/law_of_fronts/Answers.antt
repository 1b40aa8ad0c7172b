use Rattle.lsys_lattice.proofs.Strides.{parts_balanced, descent_there, turtle_told}
use Rattle.lsys_lattice.proofs.motions.law_of_fronts.Goals as goal

pub returns-clause-balanced : goal.returns-clause-balanced
returns-clause-balanced c = parts_balanced

pub returns-clause-descent : goal.returns-clause-descent
returns-clause-descent c = descent_there

pub returns-clause-turtles : goal.returns-clause-turtles
returns-clause-turtles c = turtle_told
