use Rattle.std.proofs.Common.{arith, rules}
use Rattle.std.proofs.lemmas.Grind.{elements}
use Rattle.lsys_turtle.proofs.turtle.Turtle.draw.Goals as goal

pub returns-clause-drawn : goal.returns-clause-drawn
returns-clause-drawn g c = search rules

pub returns-clause-room : goal.returns-clause-room
returns-clause-room g c = grind (arith, elements)
