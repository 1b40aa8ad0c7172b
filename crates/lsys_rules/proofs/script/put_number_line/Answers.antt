use Rattle.std.proofs.Common.{arith, ◌∷◌, []}
use Rattle.std.proofs.lemmas.Grind.{common_steps}
use Rattle.lsys_io.proofs.Puts.{puts_then, puts_failed}
use Rattle.lsys_rules.proofs.script.put_number_line.Goals as goal

pub returns-in_err-put_decimal : goal.returns-in_err-put_decimal
returns-in_err-put_decimal g c = puts_then c.in_ok-put.ensures (puts_failed (10 ∷ []) c.from_residual-in_err-put_decimal.ensures.0 c.in_err-put_decimal.ensures)

pub returns : goal.returns
returns g c = puts_then c.in_ok-put.ensures (puts_then c.in_ok-put_decimal.ensures (c.put-2.ensures))

pub returns-in_err-put : goal.returns-in_err-put
returns-in_err-put g c = grind (arith, common_steps)
