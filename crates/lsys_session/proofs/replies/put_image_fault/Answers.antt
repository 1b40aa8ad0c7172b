use Rattle.std.proofs.Common.{codes}
use Rattle.lsys_spec.specs.Refusals.{with_number}
use Rattle.lsys_io.proofs.Puts.{puts_then, puts_failed}
use Rattle.lsys_session.proofs.replies.put_image_fault.Goals as goal

pub returns-in_err-put_kind : goal.returns-in_err-put_kind
returns-in_err-put_kind g c = puts_failed (with_number (codes " image") c.args.place) c.from_residual.ensures.0 c.in_err-put_kind.ensures

pub returns : goal.returns
returns g c = puts_then c.in_ok-put_kind.ensures c.put_numbered.ensures
