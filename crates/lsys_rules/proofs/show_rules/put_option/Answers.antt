use Rattle.std.proofs.Common.{arith}
use Rattle.std.proofs.lemmas.Grind.{common_steps}
use Rattle.lsys_io.proofs.Puts.{puts_then}
use Rattle.lsys_rules.proofs.show_rules.put_option.Goals as goal

pub returns-in_ok-put-in-Some : goal.returns-in_ok-put-in-Some
returns-in_ok-put-in-Some g c = rw c.in-Some.is (puts_then c.in_ok-put-in-Some.ensures c.put_expr.ensures)

pub returns-in_err-put-in-Some : goal.returns-in_err-put-in-Some
returns-in_err-put-in-Some g c = grind (arith, common_steps)
