use Rattle.std.proofs.Common.{arith}
use Rattle.std.proofs.lemmas.Grind.{elements, common_steps}
use Rattle.lsys_turtle.proofs.turtle.Turtle.restore.Goals as goal

pub returns-in-Some-clause-turtle : goal.returns-in-Some-clause-turtle
returns-in-Some-clause-turtle g c = grind (arith, common_steps)

pub returns-in-Some-clause-room : goal.returns-in-Some-clause-room
returns-in-Some-clause-room g c = grind (arith, common_steps)

pub returns-in_default-clause-room : goal.returns-in_default-clause-room
returns-in_default-clause-room g c = grind (arith, elements)
