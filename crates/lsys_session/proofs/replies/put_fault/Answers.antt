use Rattle.std.proofs.Common.{codes, refl}
use Rattle.lsys_spec.specs.Refusals.{with_number}
use Rattle.lsys_io.proofs.Puts.{puts_then, puts_failed}
use Rattle.lsys_session.proofs.replies.put_fault.Goals as goal

pub returns-in_err-put_kind : goal.returns-in_err-put_kind
returns-in_err-put_kind g c =
    puts_failed {A = Unit {0}} (with_number (codes " module") c.args.place) c.from_residual.ensures.0 (puts_failed {failed = c.in_err-put_kind.field-0.0} (with_number (codes " level") c.args.level) refl c.in_err-put_kind.ensures)

pub returns-in_err-put_numbered : goal.returns-in_err-put_numbered
returns-in_err-put_numbered g c =
    puts_failed (with_number (codes " module") c.args.place) c.from_residual-in_err-put_numbered.ensures.0 (puts_then c.in_ok-put_kind.ensures c.in_err-put_numbered.ensures)

pub returns : goal.returns
returns g c = puts_then (puts_then c.in_ok-put_kind.ensures c.in_ok-put_numbered.ensures) c.put_numbered-2.ensures
