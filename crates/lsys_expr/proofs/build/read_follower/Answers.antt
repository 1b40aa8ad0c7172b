use Rattle.std.proofs.Common.{arith}
use Rattle.std.proofs.lemmas.Grind.{elements}
use Rattle.lsys_expr.proofs.build.read_follower.Goals as goal

pub returns-in_ok-push-in-Some-Operator : goal.returns-in_ok-push-in-Some-Operator
returns-in_ok-push-in-Some-Operator c = grind (arith, elements)
