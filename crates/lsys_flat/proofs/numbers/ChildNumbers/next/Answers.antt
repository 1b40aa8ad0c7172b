use Rattle.std.proofs.Common.{arith}
use Rattle.std.proofs.lemmas.Grind.{common_steps}
use Rattle.lsys_flat.proofs.numbers.ChildNumbers.next.Goals as goal

pub overflow_add-count : goal.overflow_add-count
overflow_add-count c = grind (arith, common_steps)

pub returns-in_ok-insert-in-Names-clause-after : goal.returns-in_ok-insert-in-Names-clause-after
returns-in_ok-insert-in-Names-clause-after c = grind (arith, common_steps)
