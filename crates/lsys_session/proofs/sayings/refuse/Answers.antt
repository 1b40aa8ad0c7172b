use Rattle.lsys_session.proofs.Whole.{puts_out, says_out, says_failed}
use Rattle.lsys_session.proofs.sayings.refuse.Goals as goal

pub returns-in_err-put_refusal : goal.returns-in_err-put_refusal
returns-in_err-put_refusal g c = says_failed c.from_residual.ensures.0 (rw c.requires at c.in_err-put_refusal.ensures) c.in_err-put_refusal.ensures.failed_holds_nothing

pub returns-in_err-finish : goal.returns-in_err-finish
returns-in_err-finish g c =
    says_failed c.from_residual-in_err-finish.ensures.0 (puts_out (rw c.requires at c.in_ok-put_refusal.ensures) c.in_err-finish.ensures.put) c.in_err-finish.ensures.empty

pub returns : goal.returns
returns g c = says_out (rw c.requires at c.in_ok-put_refusal.ensures) c.in_ok-finish.ensures.put c.in_ok-finish.ensures.empty c.of_refusal.ensures
