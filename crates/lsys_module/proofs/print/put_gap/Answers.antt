use Rattle.std.proofs.Common.{arith}
use Rattle.std.proofs.lemmas.Grind.{elements}
use Rattle.lsys_module.proofs.print.put_gap.Goals as goal

pub returns-then-letter : goal.returns-then-letter
returns-then-letter g c = grind (arith, elements)
