use Rattle.lsys_spec.specs.Refusals.{fault_word}
use Rattle.lsys_rewrite.specs.Faults.{fault_of}
use Rattle.lsys_io.proofs.Puts.{puts_then, puts_failed}
use Rattle.lsys_session.proofs.replies.put_kind.Goals as goal

pub returns-in_err-put : goal.returns-in_err-put
returns-in_err-put g c = puts_failed (fault_word (fault_of c.args.kind)) c.from_residual.ensures.0 c.in_err-put.ensures

pub returns : goal.returns
returns g c = puts_then c.in_ok-put.ensures (rw (c.as_bytes.ensures.value, c.word.ensures) at c.put-2.ensures)
