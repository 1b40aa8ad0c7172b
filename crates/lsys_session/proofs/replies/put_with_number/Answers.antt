use Rattle.std.specs.Prelude.{decimal}
use Rattle.lsys_io.proofs.Puts.{puts_then, puts_failed}
use Rattle.lsys_session.proofs.replies.put_with_number.Goals as goal

pub returns-in_err-put : goal.returns-in_err-put
returns-in_err-put g c = puts_failed (decimal c.args.number) c.from_residual.ensures.0 c.in_err-put.ensures

pub returns : goal.returns
returns g c = puts_then c.in_ok-put.ensures c.put_large_number.ensures
