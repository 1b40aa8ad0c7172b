use Rattle.std.proofs.Common.{arith}
use Rattle.std.proofs.lemmas.Grind.{common_steps}
use Rattle.lsys_pass.proofs.pass.Pass.is_other_level.Goals as goal

pub returns-else-not-is_same_numbering : goal.returns-else-not-is_same_numbering
returns-else-not-is_same_numbering g c = grind (arith, common_steps)
