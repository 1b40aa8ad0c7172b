use Rattle.std.proofs.Common.{arith}
use Rattle.std.proofs.lemmas.Grind.{common_steps}
use Rattle.lsys_module.proofs.scan.in_parentheses.Goals as goal

pub returns-in-NumberDue-Number : goal.returns-in-NumberDue-Number
returns-in-NumberDue-Number c = grind (arith, common_steps)
