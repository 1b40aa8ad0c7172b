use Rattle.std.proofs.Common.{arith}
use Rattle.std.proofs.lemmas.Grind.{elements}
use Rattle.lsys_spec.specs.Refusals.{line_feed}
use Rattle.lsys_io.proofs.Puts.{puts_then, puts_failed}
use Rattle.lsys_session.proofs.replies.put_far.Goals as goal

pub returns-in_err-put_numbered : goal.returns-in_err-put_numbered
returns-in_err-put_numbered g c = puts_then c.in_ok-put.ensures (puts_failed line_feed c.from_residual-in_err-put_numbered.ensures.0 c.in_err-put_numbered.ensures)

pub returns : goal.returns
returns g c = puts_then c.in_ok-put.ensures (puts_then c.in_ok-put_numbered.ensures c.put-2.ensures)

pub returns-in_err-put : goal.returns-in_err-put
returns-in_err-put g c = grind (arith, elements)
