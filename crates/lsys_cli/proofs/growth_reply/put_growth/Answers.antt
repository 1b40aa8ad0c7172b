use Rattle.std.proofs.Common.{◌++◌}
use Rattle.std.specs.Prelude.{decimal, flat_map}
use Rattle.lsys_spec.specs.Refusals.{line_feed}
use Rattle.lsys_growth.specs.Growth.{letter_line}
use Rattle.lsys_io.proofs.Puts.{puts_then, puts_failed}
use Rattle.lsys_cli.proofs.growth_reply.put_growth.Goals as goal

pub returns-in_err-put : goal.returns-in_err-put
returns-in_err-put g c =
    puts_failed (decimal c.args.growth.now.symbols ++ (line_feed ++ flat_map letter_line c.args.growth.now.counts)) c.from_residual.ensures.0 c.in_err-put.ensures

pub returns-in_err-put_wide_number : goal.returns-in_err-put_wide_number
returns-in_err-put_wide_number g c =
    puts_then c.in_ok-put.ensures
    (puts_failed (line_feed ++ flat_map letter_line c.args.growth.now.counts) c.from_residual-in_err-put_wide_number.ensures.0 (rw c.length.ensures at c.in_err-put_wide_number.ensures))

pub returns-in_err-put-2 : goal.returns-in_err-put-2
returns-in_err-put-2 g c =
    puts_then c.in_ok-put.ensures (puts_then (rw c.length.ensures at c.in_ok-put_wide_number.ensures)
    (puts_failed (flat_map letter_line c.args.growth.now.counts) c.from_residual-in_err-put-2.ensures.0 c.in_err-put-2.ensures))

pub returns : goal.returns
returns g c =
    puts_then c.in_ok-put.ensures (puts_then (rw c.length.ensures at c.in_ok-put_wide_number.ensures) (puts_then c.in_ok-put-2.ensures (rw c.counts.ensures at c.put_counts.ensures)))
