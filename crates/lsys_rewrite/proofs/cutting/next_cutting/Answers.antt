use Rattle.std.proofs.Common.{arith}
use Rattle.std.proofs.lemmas.Grind.{elements}
use Rattle.lsys_rewrite.proofs.cutting.next_cutting.Goals as goal

pub returns-in-None-Cut : goal.returns-in-None-Cut
returns-in-None-Cut c = grind (arith, elements)

pub returns-in-Some-Pop : goal.returns-in-Some-Pop
returns-in-Some-Pop c = grind (arith, elements)
