use Rattle.std.proofs.Common.{ap}
use Rattle.lsys_history.specs.Desks.{Desk}
use Rattle.lsys_history.proofs.Undoing.{undo-accepted, undo-next, redo-next}
use Rattle.lsys_history.proofs.law_of_undo.Goals as goal

pub returns-clause-accepted : goal.returns-clause-accepted
returns-clause-accepted c = undo-accepted

pub returns-clause-back : goal.returns-clause-back
returns-clause-back c = λ limit d before s l e. ap (λ (x : Desk). x.system) (undo-next limit d before s l e)

pub returns-clause-on : goal.returns-clause-on
returns-clause-on c = redo-next
