use Rattle.std.proofs.Common.{◌∷◌}
use Rattle.std.specs.Fmt.{signed_decimal}
use Rattle.lsys_io.proofs.Puts.{puts_failed, puts_then}
use Rattle.lsys_cli.proofs.picture_reply.put_span.Goals as goal

pub returns-in_err-put_wide : goal.returns-in_err-put_wide
returns-in_err-put_wide g c =
    puts_failed (32 ∷ signed_decimal c.args.high.now) c.from_residual.ensures.0 c.in_err-put_wide.ensures

pub returns-in_err-put : goal.returns-in_err-put
returns-in_err-put g c =
    puts_then c.in_ok-put_wide.ensures (puts_failed (signed_decimal c.args.high.now) c.from_residual-in_err-put.ensures.0 c.in_err-put.ensures)

pub returns : goal.returns
returns g c =
    puts_then c.in_ok-put_wide.ensures (puts_then c.in_ok-put.ensures (c.put_wide-2.ensures))
