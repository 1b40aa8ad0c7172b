use Rattle.std.proofs.Common.{arith}
use Rattle.std.proofs.lemmas.Grind.{common_steps}
use Rattle.lsys_bodies.proofs.counting.inside_passes.Goals as goal

pub returns-else-done-gt-MOST_EXPRESSION_TOKENS : goal.returns-else-done-gt-MOST_EXPRESSION_TOKENS
returns-else-done-gt-MOST_EXPRESSION_TOKENS c = grind (arith, common_steps)
