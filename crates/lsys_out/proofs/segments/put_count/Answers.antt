use Rattle.std.proofs.Common.{[], ◌∷◌, ◌++◌, decimal}
use Rattle.lsys_io.proofs.Puts.{puts_failed, puts_then}
use Rattle.lsys_out.proofs.segments.put_count.Goals as goal

pub returns-in_err-put : goal.returns-in_err-put
returns-in_err-put g c = puts_failed (decimal c.args.count ++ 10 ∷ []) c.from_residual.ensures.0 c.in_err-put.ensures

pub returns-in_err-put_unsigned : goal.returns-in_err-put_unsigned
returns-in_err-put_unsigned g c = puts_then c.in_ok-put.ensures (puts_failed (10 ∷ []) c.from_residual-in_err-put_unsigned.ensures.0 c.in_err-put_unsigned.ensures)

pub returns : goal.returns
returns g c = puts_then c.in_ok-put.ensures (puts_then c.in_ok-put_unsigned.ensures c.put-2.ensures)
