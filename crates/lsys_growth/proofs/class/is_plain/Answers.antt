use Rattle.std.proofs.Common.{arith}
use Rattle.std.proofs.lemmas.Grind.{elements, common_steps}
use Rattle.lsys_growth.proofs.class.is_plain.Goals as goal

pub returns-then-is_none-2 : goal.returns-then-is_none-2
returns-then-is_none-2 c = grind (arith, common_steps)

pub returns-else-is_none-2 : goal.returns-else-is_none-2
returns-else-is_none-2 c = grind (arith, elements)
