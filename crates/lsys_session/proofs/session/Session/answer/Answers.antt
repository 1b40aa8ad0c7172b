use Rattle.std.proofs.Common.{arith}
use Rattle.std.proofs.lemmas.Grind.{common_steps}
use Rattle.lsys_session.proofs.session.Session.answer.Goals as goal

pub returns-in-Edit-clause-gives : goal.returns-in-Edit-clause-gives
returns-in-Edit-clause-gives g c = grind (arith, common_steps)

pub returns-in-Show-clause-gives : goal.returns-in-Show-clause-gives
returns-in-Show-clause-gives g c = grind (arith, common_steps)
