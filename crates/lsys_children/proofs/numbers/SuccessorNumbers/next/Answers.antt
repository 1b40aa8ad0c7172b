use Rattle.std.proofs.Common.{rules, arith}
use Rattle.std.proofs.lemmas.Grind.{common_steps}
use Rattle.lsys_children.proofs.numbers.SuccessorNumbers.next.Goals as goal

pub returns-in_ok-insert-in-Names-clause-after : goal.returns-in_ok-insert-in-Names-clause-after
returns-in_ok-insert-in-Names-clause-after c = grind (arith, common_steps)

pub returns-in_ok-insert-in-Names-clause-number : goal.returns-in_ok-insert-in-Names-clause-number
returns-in_ok-insert-in-Names-clause-number c = search rules
