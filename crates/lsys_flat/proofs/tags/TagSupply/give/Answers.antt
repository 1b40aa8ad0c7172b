use Rattle.std.proofs.Common.{arith}
use Rattle.std.proofs.lemmas.Grind.{common_steps}
use Rattle.lsys_flat.proofs.tags.TagSupply.give.Goals as goal

pub overflow_add-self : goal.overflow_add-self
overflow_add-self c = grind (arith, common_steps)

pub returns-clause-free : goal.returns-clause-free
returns-clause-free c = grind (arith, common_steps)

pub returns-clause-one : goal.returns-clause-one
returns-clause-one c = grind (arith, common_steps)
