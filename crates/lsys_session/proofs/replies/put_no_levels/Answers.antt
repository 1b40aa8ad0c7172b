use Rattle.std.proofs.Common.{◌++◌}
use Rattle.lsys_spec.specs.Refusals.{line_feed}
use Rattle.lsys_io.proofs.Puts.{puts_then, puts_failed}
use Rattle.lsys_session.specs.Requests.{cause_text}
use Rattle.lsys_session.proofs.replies.put_no_levels.Goals as goal

pub returns-in_err-put : goal.returns-in_err-put
returns-in_err-put g c = puts_failed (cause_text c.args.refusal ++ line_feed) c.from_residual.ensures.0 c.in_err-put.ensures

pub returns-in_err-put_why : goal.returns-in_err-put_why
returns-in_err-put_why g c = puts_then c.in_ok-put.ensures (puts_failed line_feed c.from_residual-in_err-put_why.ensures.0 c.in_err-put_why.ensures)

pub returns : goal.returns
returns g c = puts_then c.in_ok-put.ensures (puts_then c.in_ok-put_why.ensures c.put-2.ensures)
