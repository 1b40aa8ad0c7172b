use Rattle.std.proofs.Common.{sym}
use Rattle.lsys_session.proofs.Requests.{edit_requested, query_requested}
use Rattle.lsys_session.proofs.request.requested.Goals as goal

pub returns-in_ok-check-in-Some : goal.returns-in_ok-check-in-Some
returns-in_ok-check-in-Some c = query_requested c.args.system.now c.args.command.now c.kind.result (sym c.kind.ensures) c.in_ok-check-in-Some.ensures.refusal c.in-Some.query (sym c.in-Some.ensures)

pub returns-in_ok-next-in-None : goal.returns-in_ok-next-in-None
returns-in_ok-next-in-None c = edit_requested c.args.system.now c.args.command.now c.kind.result (sym c.kind.ensures) c.in_ok-next-in-None.ensures.0 c.in_ok-next-in-None.next (sym c.in-None.ensures) c.in_ok-next-in-None.ensures.1
