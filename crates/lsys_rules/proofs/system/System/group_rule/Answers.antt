use Rattle.std.proofs.Common.{arith}
use Rattle.std.proofs.lemmas.Grind.{elements}
use Rattle.lsys_rules.proofs.system.System.group_rule.Goals as goal

pub returns-clause-rule : goal.returns-clause-rule
returns-clause-rule c = grind (arith, elements)

pub returns-clause-body : goal.returns-clause-body
returns-clause-body c = grind (arith, elements)
