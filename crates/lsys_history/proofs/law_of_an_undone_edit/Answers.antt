use Rattle.std.proofs.Common.{ap, Some}
use Rattle.lsys_history.specs.Desks.{Desk, session_reply}
use Rattle.lsys_history.proofs.Undoing.{undo-accepted, undo-next, edit_past}
use Rattle.lsys_history.proofs.law_of_an_undone_edit.Goals as goal

pub returns-clause-accepted : goal.returns-clause-accepted
returns-clause-accepted c = λ limit d r k l a e.
    let p = edit_past d r k a e in
    undo-accepted limit (session_reply d r (Some k)).next p.0 d.system l p.1

pub returns-clause-back : goal.returns-clause-back
returns-clause-back c = λ limit d r k l a e.
    let p = edit_past d r k a e in
    ap (λ (x : Desk). x.system) (undo-next limit (session_reply d r (Some k)).next p.0 d.system l p.1)
