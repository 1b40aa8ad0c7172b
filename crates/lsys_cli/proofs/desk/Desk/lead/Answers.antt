use Rattle.std.proofs.Common.{◌∙◌, Some, ap, refl, subst, sym, true}
use Rattle.lsys_laws.specs.Sessions.{HasLevels}
use Rattle.lsys_session.specs.declared.outcome.Outcome.TheVariants as outcomes
use Rattle.lsys_cli.specs.Views.{Bench, desk_on}
use Rattle.lsys_cli.proofs.Leading.{lacking}
use Rattle.lsys_cli.proofs.Counting.{stay}
use Rattle.lsys_cli.proofs.Telling.{refusal_tells}
use Rattle.lsys_session.proofs.Whole.{unchanged}
use Rattle.lsys_cli.proofs.desk.Desk.lead.Goals as goal

-- 1. no memory to keep the present system

pub returns-in-Err-clause-gives : goal.returns-in-Err-clause-gives
returns-in-Err-clause-gives g c =
    lacking g.K.Sink.written g.K.Sink.faults c.args.sink.now c.refuse.new.sink c.refuse.new.out (desk_on g.D.Derivation.system_of c.args.self.now) c.refuse.result _ c.refuse.ensures

pub returns-in-Err-clause-kept : goal.returns-in-Err-clause-kept
returns-in-Err-clause-kept g c = rw (← c.self.view_is) c.self.invariant.0

pub returns-in-Err-clause-counts : goal.returns-in-Err-clause-counts
returns-in-Err-clause-counts g c =
    stay g.D.Derivation.visits (g.D.Derivation.limit_of c.args.self.now.derivation) (g.D.Derivation.system_of c.args.self.now.derivation) (record { asked = c.args.asked.now; visited = c.args.visited.now })
    true outcomes.Memory c.refuse.result tt c.refuse.ensures.outcome

pub returns-in-Err-clause-leads : goal.returns-in-Err-clause-leads
returns-in-Err-clause-leads g c = refusal_tells (Some c.args.system) outcomes.Memory c.refuse.result refl c.refuse.ensures.outcome

pub returns-in-Err-clause-unless_accepted : goal.returns-in-Err-clause-unless_accepted
returns-in-Err-clause-unless_accepted g c = unchanged c.refuse.result refl

-- 2. a step from the copy

pub lead_from-requires-clause-present : goal.lead_from-requires-clause-present
lead_from-requires-clause-present g c = c.in-Ok.ensures.cases ∙ c.system.ensures.system ∙ ap (λ (b : Bench _). g.D.Derivation.system_of b.derivation) c.self.view_is

pub lead_from-requires-clause-levels : goal.lead_from-requires-clause-levels
lead_from-requires-clause-levels g c =
    let levels : HasLevels (g.D.Derivation.limit_of c.self.inside.session) c.in-Ok.present = subst (HasLevels (g.D.Derivation.limit_of c.self.inside.session)) (sym (c.in-Ok.ensures.cases ∙ c.system.ensures.system)) c.system.ensures.kept.levels in
    subst (λ (b : Bench _). HasLevels (g.D.Derivation.limit_of b.derivation) c.in-Ok.present) c.self.view_is levels
