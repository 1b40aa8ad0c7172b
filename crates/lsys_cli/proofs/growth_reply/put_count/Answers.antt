use Rattle.std.proofs.Common.{◌∷◌, ◌++◌}
use Rattle.std.specs.Prelude.{decimal}
use Rattle.lsys_spec.specs.Refusals.{line_feed}
use Rattle.lsys_io.proofs.Puts.{puts_then, puts_failed}
use Rattle.lsys_cli.proofs.growth_reply.put_count.Goals as goal

pub returns-in_err-put_letter : goal.returns-in_err-put_letter
returns-in_err-put_letter g c = puts_failed (32 ∷ (decimal c.args.count.now.count ++ line_feed)) c.from_residual.ensures.0 c.in_err-put_letter.ensures

pub returns-in_err-put : goal.returns-in_err-put
returns-in_err-put g c =
    puts_then c.in_ok-put_letter.ensures (puts_failed (decimal c.args.count.now.count ++ line_feed) c.from_residual-in_err-put.ensures.0 c.in_err-put.ensures)

pub returns-in_err-put_wide_number : goal.returns-in_err-put_wide_number
returns-in_err-put_wide_number g c =
    puts_then c.in_ok-put_letter.ensures (puts_then c.in_ok-put.ensures (puts_failed line_feed c.from_residual-in_err-put_wide_number.ensures.0 c.in_err-put_wide_number.ensures))

pub returns : goal.returns
returns g c = puts_then c.in_ok-put_letter.ensures (puts_then c.in_ok-put.ensures (puts_then c.in_ok-put_wide_number.ensures c.put-2.ensures))
