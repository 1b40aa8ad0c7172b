use Rattle.std.proofs.Common.{refl}
use Rattle.lsys_spec.specs.Refusals.{line_feed}
use Rattle.lsys_io.proofs.Puts.{puts_then, puts_failed}
use Rattle.lsys_session.proofs.Whole.{puts_out, says_out, says_failed}
use Rattle.lsys_session.proofs.sayings.print_line.Goals as goal

pub returns-in_err-put_level : goal.returns-in_err-put_level
returns-in_err-put_level g c =
    says_failed c.from_residual.ensures.0 (puts_failed {B = Unit {0}} {failed = c.in_err-put_level.field-0.0} line_feed refl (rw c.requires.empty at c.in_err-put_level.ensures)) c.in_err-put_level.ensures.failed_holds_nothing

pub returns-in_err-put : goal.returns-in_err-put
returns-in_err-put g c =
    says_failed c.from_residual-in_err-put.ensures.0 (puts_then (rw c.requires.empty at c.in_ok-put_level.ensures) c.in_err-put.ensures) c.in_err-put.ensures.failed_holds_nothing

pub returns-in_err-finish : goal.returns-in_err-finish
returns-in_err-finish g c =
    says_failed c.from_residual-in_err-finish.ensures.0 (puts_out (puts_then (rw c.requires.empty at c.in_ok-put_level.ensures) c.in_ok-put.ensures) c.in_err-finish.ensures.put) c.in_err-finish.ensures.empty

pub returns : goal.returns
returns g c =
    says_out (puts_then (rw c.requires.empty at c.in_ok-put_level.ensures) c.in_ok-put.ensures) c.in_ok-finish.ensures.put c.in_ok-finish.ensures.empty refl
