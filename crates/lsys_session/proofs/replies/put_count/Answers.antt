use Rattle.std.proofs.Common.{◌++◌, ◌∷◌}
use Rattle.std.specs.Prelude.{decimal}
use Rattle.lsys_spec.specs.Refusals.{line_feed}
use Rattle.lsys_io.proofs.Puts.{puts_then, puts_failed}
use Rattle.lsys_session.proofs.replies.put_count.Goals as goal

pub returns-in_err-put_with_number : goal.returns-in_err-put_with_number
returns-in_err-put_with_number g c =
    puts_failed (47 ∷ (decimal c.args.count.questions ++ line_feed)) c.from_residual.ensures.0 c.in_err-put_with_number.ensures

pub returns-in_err-put_with_number-2 : goal.returns-in_err-put_with_number-2
returns-in_err-put_with_number-2 g c =
    puts_then c.in_ok-put_with_number.ensures
    (puts_failed line_feed c.from_residual-in_err-put_with_number-2.ensures.0 c.in_err-put_with_number-2.ensures)

pub returns : goal.returns
returns g c = puts_then c.in_ok-put_with_number.ensures (puts_then c.in_ok-put_with_number-2.ensures c.put.ensures)
