use Rattle.std.proofs.Common.{arith}
use Rattle.std.proofs.lemmas.Grind.{elements}
use Rattle.lsys_cli.proofs.growth_reply.refuse_growth.Goals as goal

pub returns-in-Overflow : goal.returns-in-Overflow
returns-in-Overflow g c = grind (arith, elements)

pub returns-in-Class : goal.returns-in-Class
returns-in-Class g c = grind (arith, elements)

pub returns-in-Letters : goal.returns-in-Letters
returns-in-Letters g c = grind (arith, elements)
