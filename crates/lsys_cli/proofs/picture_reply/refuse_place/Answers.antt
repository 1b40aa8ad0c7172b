use Rattle.std.proofs.Common.{refl}
use Rattle.lsys_session.proofs.Whole.{puts_out, says_out, says_failed}
use Rattle.lsys_cli.proofs.picture_reply.refuse_place.Goals as goal

pub returns-in_err-put_no_place : goal.returns-in_err-put_no_place
returns-in_err-put_no_place g c = says_failed c.from_residual.ensures.0 (rw c.requires at c.in_err-put_no_place.ensures) c.in_err-put_no_place.ensures.failed_holds_nothing

pub returns-in_err-finish : goal.returns-in_err-finish
returns-in_err-finish g c =
    says_failed c.from_residual-in_err-finish.ensures.0 (puts_out (rw c.requires at c.in_ok-put_no_place.ensures) c.in_err-finish.ensures.put) c.in_err-finish.ensures.empty

pub returns : goal.returns
returns g c = says_out (rw c.requires at c.in_ok-put_no_place.ensures) c.in_ok-finish.ensures.put c.in_ok-finish.ensures.empty refl
