use Rattle.std.proofs.Common.{ap, subst, sym, rules}
use Rattle.lsys_laws.specs.Sessions.{IsWell, HasLevels}
use Rattle.lsys_session.specs.Given.{IsWellUnder}
use Rattle.lsys_session.proofs.Whole.{unchanged, was_accepted}
use Rattle.lsys_session.proofs.Editing.{edit_accepted, edit_refused, edit_counted, edit_few}
use Rattle.lsys_session.proofs.session.Session.edit.Goals as goal
use Rattle.lsys_session.proofs.session.Session.edit.Goals.{in-Ok, in-Err}

pub returns-clause-gives : goal.returns-clause-gives
returns-clause-gives g c =
    let limit = g.D.Derivation.limit_of c.self.inside.derivation in
    let s = g.D.Derivation.system_of c.self.inside.derivation in
    let new = g.D.Derivation.system_of c.edit.new.self in
    let levels = g.D.LevelView.levels c.edit.new.self in
    let kept = c.self.invariant.levels in
    rw (← c.self.view_is)
    (elim c.match-edit.branch [
      | in-Ok w ↦ rw (w.out-is, w.sink-is, w.result-is) (edit_accepted g.K.Sink.written g.K.Sink.faults c.args.sink.now w.accept.new.sink w.accept.new.out limit s new c.args.next w.accept.result kept.0 levels w.in-Ok.count kept.1 w.in-Ok.ensures.outcome w.in-Ok.ensures.counted w.in-Ok.ensures.system w.accept.ensures)
      | in-Err w ↦ rw (w.out-is, w.sink-is, w.result-is) (edit_refused g.K.Sink.written g.K.Sink.faults c.args.sink.now w.refuse_edit.new.sink w.refuse_edit.new.out limit s new c.args.next w.refuse_edit.result w.in-Err.refusal levels w.in-Err.ensures.outcome (ap g.D.Derivation.system_of w.in-Err.ensures.refused) w.refuse_edit.ensures)
    ])

pub returns-clause-counts : goal.returns-clause-counts
returns-clause-counts g c =
    let limit = g.D.Derivation.limit_of c.self.inside.derivation in
    let s = g.D.Derivation.system_of c.self.inside.derivation in
    let new = g.D.Derivation.system_of c.edit.new.self in
    let levels = g.D.LevelView.levels c.edit.new.self in
    let kept = c.self.invariant.levels in
    rw (← c.self.view_is)
    (elim c.match-edit.branch [
      | in-Ok w ↦ rw w.result-is (edit_counted g.D.Derivation.visits limit s new c.args.next (record { asked = c.args.asked.now; visited = c.args.visited.now }) (record { asked = c.edit.new.asked; visited = c.edit.new.visited }) kept.0 levels w.in-Ok.count w.accept.result kept.1 w.in-Ok.ensures.outcome w.in-Ok.ensures.counted w.in-Ok.ensures.asked w.in-Ok.ensures.read w.in-Ok.ensures.system w.accept.ensures.outcome)
      | in-Err w ↦ rw w.result-is (edit_few g.D.Derivation.visits limit s new c.args.next (record { asked = c.args.asked.now; visited = c.args.visited.now }) (record { asked = c.edit.new.asked; visited = c.edit.new.visited }) w.in-Err.refusal w.refuse_edit.result w.in-Err.ensures.few_asked w.in-Err.ensures.few_read w.refuse_edit.ensures.outcome)
    ])

pub returns-clause-unless_accepted : goal.returns-clause-unless_accepted
returns-clause-unless_accepted g c =
    rw (← c.self.view_is)
    (elim c.match-edit.branch [
      | in-Ok w ↦ rw w.result-is (was_accepted _ w.accept.result w.accept.ensures.outcome)
      | in-Err w ↦ rw w.result-is (unchanged w.refuse_edit.result w.in-Err.ensures.refused)
    ])

pub invariant_of-self : goal.invariant_of-self
invariant_of-self g c =
    let limit = g.D.Derivation.limit_of c.self.inside.derivation in
    let new = g.D.Derivation.system_of c.edit.new.self in
    let kept : IsWellUnder limit new = elim c.match-edit.branch [
      | in-Ok w ↦ record {
        limited = c.self.invariant.limited;
        well = (let well : IsWell c.args.next = search rules in subst IsWell (sym w.in-Ok.ensures.system) well);
        levels = subst (HasLevels limit) (sym w.in-Ok.ensures.system) (w.in-Ok.ensures.outcome.meant, w.in-Ok.ensures.outcome.is);
      }
      | in-Err w ↦ subst (IsWellUnder limit) (sym (ap g.D.Derivation.system_of w.in-Err.ensures.refused)) (search rules)
    ] in
    subst (λ n. IsWellUnder n new) (sym c.edit.ensures.limit) kept
