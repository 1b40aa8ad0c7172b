use Rattle.lsys_session.proofs.Requests.{asked, passed_over}
use Rattle.lsys_session.proofs.request.request_of.Goals as goal

pub returns-in_default : goal.returns-in_default
returns-in_default c = passed_over c.args.system.now c.args.line.now c.in_default.ensures

pub returns : goal.returns
returns c = asked c.args.system.now c.args.line.now c.in_ok-command.command c.in-Some.ensures.something c.in_ok-command.ensures c.requested.result c.requested.ensures
