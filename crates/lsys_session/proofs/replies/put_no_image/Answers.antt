use Rattle.std.proofs.Common.{◌++◌}
use Rattle.lsys_spec.specs.Refusals.{line_feed, image_text}
use Rattle.lsys_io.proofs.Puts.{puts_then, puts_failed}
use Rattle.lsys_hom.specs.Refusals.{refusal_of}
use Rattle.lsys_session.proofs.replies.put_no_image.Goals as goal

pub returns-in_err-put : goal.returns-in_err-put
returns-in_err-put g c = puts_failed (image_text (refusal_of c.args.refusal) ++ line_feed) c.from_residual.ensures.0 c.in_err-put.ensures

pub returns-in_err-put_image : goal.returns-in_err-put_image
returns-in_err-put_image g c = puts_then c.in_ok-put.ensures (puts_failed line_feed c.from_residual-in_err-put_image.ensures.0 c.in_err-put_image.ensures)

pub returns : goal.returns
returns g c = puts_then c.in_ok-put.ensures (puts_then c.in_ok-put_image.ensures c.put-2.ensures)
