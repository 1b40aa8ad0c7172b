use Rattle.std.proofs.Common.{rules}
use Rattle.lsys_match.proofs.answer.Answer.trace_for.Goals as goal

pub returns-clause-posed : goal.returns-clause-posed
returns-clause-posed g c = search rules
