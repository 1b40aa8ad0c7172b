use Rattle.std.proofs.Common.{◌≡◌, ◌∙◌, Some, ap, refl, subst, sym, true}
use Rattle.std.specs.Prelude.{◌≢◌, IfOk}
use Rattle.lsys_laws.specs.Sessions.{HasLevels}
use Rattle.lsys_session.specs.Answers.{WasCounted}
use Rattle.lsys_session.specs.declared.outcome.Outcome.TheVariants as outcomes
use Rattle.lsys_cli.specs.Answers.{WasServedOrLacked, step_answer}
use Rattle.lsys_cli.specs.Steps.{LeadsSomewhere, steps_after, steps_by}
use Rattle.lsys_cli.specs.Views.{Bench, bench, desk_on}
use Rattle.lsys_cli.proofs.Leading.{step_led}
use Rattle.lsys_cli.proofs.Keeping.{stays_unless_accepted, steps_kept}
use Rattle.lsys_cli.proofs.Motioned.{after_step}
use Rattle.lsys_cli.specs.Motions.{AreKept, motions_after}
use Rattle.lsys_cli.proofs.Telling.{unrefused_tells}
use Rattle.lsys_cli.proofs.desk.Desk.lead_from.Goals as goal

pub take_step-requires : goal.take_step-requires
take_step-requires g c = subst (λ (b : Bench _). LeadsSomewhere c.args.step b.steps) (sym c.self.view_is) c.requires.there

pub invariant_of-self : goal.invariant_of-self
invariant_of-self g c =
    let limit = g.D.Derivation.limit_of c.self.inside.session in
    let levels : HasLevels limit c.args.present = subst (λ (b : Bench _). HasLevels (g.D.Derivation.limit_of b.derivation) c.args.present) (sym c.self.view_is) c.requires.levels in
    let motions : AreKept limit (g.D.Derivation.system_of c.restore-led.new.self) (motions_after c.restore-led.result c.self.inside.motions) =
    after_step limit (g.D.Derivation.system_of c.self.inside.session) c.args.system g.K.Sink.written g.K.Sink.faults c.args.sink.now c.restore-led.new.sink c.restore-led.new.out (g.D.Derivation.system_of c.restore-led.new.self)
    c.restore-led.result c.self.inside.motions c.restore-led.ensures.leads c.self.invariant.1 in (
      rw (c.take_step.ensures, c.restore-led.ensures.limit) (steps_kept (HasLevels limit) c.restore-led.result c.args.step c.self.inside.history c.args.present c.self.invariant.0 levels),
      rw (c.forget_motions.ensures, c.restore-led.ensures.limit) motions,
    )

pub returns-clause-kept : goal.returns-clause-kept
returns-clause-kept g c =
    let limit = g.D.Derivation.limit_of c.self.inside.session in
    let levels : HasLevels limit c.args.present = subst (λ (b : Bench _). HasLevels (g.D.Derivation.limit_of b.derivation) c.args.present) (sym c.self.view_is) c.requires.levels in
    rw (c.take_step.ensures, c.restore-led.ensures.limit) (steps_kept (HasLevels limit) c.restore-led.result c.args.step c.self.inside.history c.args.present c.self.invariant.0 levels)

pub returns-clause-gives : goal.returns-clause-gives
returns-clause-gives g c =
    let before : Bench _ = bench c.self.inside.session c.self.inside.history in
    let s = g.D.Derivation.system_of c.self.inside.session in
    let present : c.args.present ≡ s = c.requires.present ∙ ap (λ (b : Bench _). g.D.Derivation.system_of b.derivation) (sym c.self.view_is) in
    let steps : c.take_step.new.history ≡ steps_after c.restore-led.result c.args.step c.self.inside.history s =
    c.take_step.ensures ∙ ap (steps_after c.restore-led.result c.args.step c.self.inside.history) present in
    let after : Bench _ = bench c.restore-led.new.self c.take_step.new.history in
    subst
    (λ (b : Bench _). WasServedOrLacked g.K.Sink.written g.K.Sink.faults c.args.sink.now c.restore-led.new.sink c.restore-led.new.out (desk_on g.D.Derivation.system_of b)
    (step_answer (g.D.Derivation.limit_of b.derivation) (desk_on g.D.Derivation.system_of b) c.args.system (steps_by c.args.step b.steps (g.D.Derivation.system_of b.derivation)))
    (desk_on g.D.Derivation.system_of after) c.restore-led.result)
    c.self.view_is
    (step_led g.K.Sink.written g.K.Sink.faults c.args.sink.now c.restore-led.new.sink c.restore-led.new.out (g.D.Derivation.limit_of c.self.inside.session) (desk_on g.D.Derivation.system_of before) c.args.system c.args.step
    c.restore-led.result (g.D.Derivation.system_of c.restore-led.new.self) c.take_step.new.history c.restore-led.ensures.leads steps)

pub returns-clause-limit : goal.returns-clause-limit
returns-clause-limit g c = rw (← c.self.view_is) c.restore-led.ensures.limit

pub returns-clause-counts : goal.returns-clause-counts
returns-clause-counts g c =
    subst
    (λ (b : Bench _). WasCounted g.D.Derivation.visits (g.D.Derivation.limit_of b.derivation) true (g.D.Derivation.system_of b.derivation) (g.D.Derivation.system_of c.restore-led.new.self)
    (record { asked = c.args.asked.now; visited = c.args.visited.now }) (record { asked = c.restore-led.new.asked; visited = c.restore-led.new.visited }) c.restore-led.result)
    c.self.view_is c.restore-led.ensures.counts

pub returns-clause-leads : goal.returns-clause-leads
returns-clause-leads g c =
    let leads = c.restore-led.ensures.leads in
    unrefused_tells (Some c.args.system) outcomes.Accepted leads.reply c.restore-led.result refl leads.says.outcome

pub returns-clause-unless_accepted : goal.returns-clause-unless_accepted
returns-clause-unless_accepted g c =
    subst (λ (b : Bench _). IfOk c.restore-led.result (λ o. o ≢ outcomes.Accepted → bench c.restore-led.new.self c.take_step.new.history ≡ b)) c.self.view_is
    (stays_unless_accepted _ _ c.restore-led.result c.args.step c.self.inside.history c.args.present c.restore-led.ensures.unless_accepted c.take_step.ensures)
