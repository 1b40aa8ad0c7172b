use Rattle.std.proofs.Common.{arith}
use Rattle.std.proofs.lemmas.Grind.{common_steps}
use Rattle.lsys_reading.proofs.heading.production_heading.Goals as goal

pub returns-then-is_colon-clause-place : goal.returns-then-is_colon-clause-place
returns-then-is_colon-clause-place c = grind (arith, common_steps)

pub returns-clause-heading : goal.returns-clause-heading
returns-clause-heading c = grind (arith, common_steps)

pub returns-clause-place : goal.returns-clause-place
returns-clause-place c = grind (arith, common_steps)
