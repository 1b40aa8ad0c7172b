use Rattle.std.proofs.Common.{arith}
use Rattle.std.proofs.lemmas.Grind.{elements}
use Rattle.lsys_module.proofs.symbol.name_code.Goals as goal

pub returns-in-Pop : goal.returns-in-Pop
returns-in-Pop c = grind (arith, elements)
