use Rattle.std.proofs.Common.{arith}
use Rattle.std.proofs.lemmas.Grind.{common_steps}
use Rattle.lsys_bodies.proofs.same.same_pattern.Goals as goal

pub returns-then-same_name : goal.returns-then-same_name
returns-then-same_name c = grind (arith, common_steps)
