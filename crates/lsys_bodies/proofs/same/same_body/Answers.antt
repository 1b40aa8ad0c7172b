use Rattle.std.proofs.Common.{arith, rules}
use Rattle.std.proofs.lemmas.Grind.{common_steps}
use Rattle.lsys_bodies.proofs.same.same_body.Goals as goal

pub returns-then-same_option-2 : goal.returns-then-same_option-2
returns-then-same_option-2 c = grind (arith, common_steps)

pub returns-else-same_option-2 : goal.returns-else-same_option-2
returns-else-same_option-2 c = search rules
