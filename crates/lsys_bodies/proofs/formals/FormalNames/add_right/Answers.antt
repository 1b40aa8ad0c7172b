use Rattle.std.proofs.Common.{arith}
use Rattle.std.proofs.lemmas.Grind.{elements, common_steps}
use Rattle.lsys_bodies.proofs.formals.FormalNames.add_right.Goals as goal

pub returns-then-is_empty : goal.returns-then-is_empty
returns-then-is_empty c = grind (arith, common_steps)

pub overflow_add-self : goal.overflow_add-self
overflow_add-self c = grind (arith, elements)

pub add_patterns-requires : goal.add_patterns-requires
add_patterns-requires c = grind (arith, elements)
