use Rattle.std.proofs.Common.{arith}
use Rattle.std.proofs.lemmas.Grind.{common_steps}
use Rattle.lsys_bodies.proofs.filter.Filter.ignores.Goals as goal

pub returns-in-Consider : goal.returns-in-Consider
returns-in-Consider c = grind (arith, common_steps)
