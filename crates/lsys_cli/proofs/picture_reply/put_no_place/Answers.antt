use Rattle.std.proofs.Common.{◌++◌}
use Rattle.std.specs.Prelude.{decimal}
use Rattle.lsys_spec.specs.Refusals.{line_feed}
use Rattle.lsys_io.proofs.Puts.{puts_failed, puts_then}
use Rattle.lsys_cli.proofs.picture_reply.put_no_place.Goals as goal

pub returns-in_err-put : goal.returns-in_err-put
returns-in_err-put g c =
    puts_failed (decimal c.args.column ++ line_feed) c.from_residual.ensures.0 c.in_err-put.ensures

pub returns-in_err-put_unsigned : goal.returns-in_err-put_unsigned
returns-in_err-put_unsigned g c =
    puts_then c.in_ok-put.ensures (puts_failed (line_feed) c.from_residual-in_err-put_unsigned.ensures.0 c.in_err-put_unsigned.ensures)

pub returns : goal.returns
returns g c =
    puts_then c.in_ok-put.ensures (puts_then c.in_ok-put_unsigned.ensures (c.put-2.ensures))
