use Rattle.std.proofs.Common.{rules, arith}
use Rattle.std.proofs.lemmas.Grind.{elements}
use Rattle.lsys_front.proofs.lost.is_idle.Goals as goal

pub returns-else-is_some : goal.returns-else-is_some
returns-else-is_some g c = grind (arith, elements)

pub returns-then-is_some : goal.returns-then-is_some
returns-then-is_some g c = search rules
