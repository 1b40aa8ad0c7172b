use Rattle.std.proofs.Common.{arith}
use Rattle.std.proofs.lemmas.Grind.{common_steps, elements}
use Rattle.lsys_growth.proofs.capped.times.Goals as goal

pub returns-in_default : goal.returns-in_default
returns-in_default c = grind (arith, elements)

pub returns-in_default-3 : goal.returns-in_default-3
returns-in_default-3 c = grind (arith, common_steps)
