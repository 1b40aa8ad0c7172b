use Rattle.std.proofs.Common.{arith}
use Rattle.std.proofs.lemmas.Grind.{common_steps}
use Rattle.lsys_bodies.proofs.patterns.pattern.Goals as goal

pub returns-clause-formals : goal.returns-clause-formals
returns-clause-formals c = grind (arith, common_steps)
