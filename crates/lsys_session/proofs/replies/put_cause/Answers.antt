use Rattle.std.proofs.Common.{sym}
use Rattle.lsys_io.proofs.Puts.{puts_then, puts_failed}
use Rattle.lsys_session.specs.Requests.{refusal_column, column_text}
use Rattle.lsys_session.proofs.replies.put_cause.Goals as goal

pub returns-in_err-put : goal.returns-in_err-put
returns-in_err-put g c =
    rw (sym c.words_of.ensures) (puts_failed (column_text (refusal_column c.args.refusal)) c.from_residual.ensures.0 c.in_err-put.ensures)

pub returns : goal.returns
returns g c = rw (sym c.words_of.ensures, sym c.column_of.ensures) (puts_then c.in_ok-put.ensures c.put_column.ensures)
