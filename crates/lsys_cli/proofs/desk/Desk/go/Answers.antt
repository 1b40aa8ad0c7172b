use Rattle.std.proofs.Common.{◌≡◌, ◌∙◌, Some, ap, refl, sym, false}
use Rattle.lsys_spec.specs.Systems.{System}
use Rattle.lsys_history.specs.Timelines.{nearest}
use Rattle.lsys_laws.specs.Sessions.{HasLevels}
use Rattle.lsys_session.specs.declared.outcome.Outcome.TheVariants as outcomes
use Rattle.lsys_cli.specs.Steps.{kept_along, steps_by}
use Rattle.lsys_cli.specs.Views.{Bench, desk_on}
use Rattle.lsys_cli.proofs.Leading.{each_along, lacking, leads_somewhere, no_step, step_leads_by}
use Rattle.lsys_cli.proofs.Counting.{not_refused, stay}
use Rattle.lsys_cli.proofs.Keeping.{nearest_kept, some_nearest}
use Rattle.lsys_cli.proofs.Telling.{refusal_tells, tells_same}
use Rattle.lsys_session.proofs.Whole.{unchanged}
use Rattle.lsys_cli.proofs.desk.Desk.go.Goals as goal

-- 1. nothing is kept there

pub returns-in_default-clause-gives : goal.returns-in_default-clause-gives
returns-in_default-clause-gives g c =
    no_step g.K.Sink.written g.K.Sink.faults c.args.sink.now c.say.new.sink c.say.new.out (desk_on g.D.Derivation.system_of c.args.self.now) c.say.result c.args.way (g.D.Derivation.limit_of c.args.self.now.derivation)
    (c.in_default.ensures ∙ ap (λ (b : Bench _). nearest (kept_along c.args.way b.steps)) c.self.view_is) (rw c.refusal.ensures at c.say.ensures)

pub returns-in_default-clause-kept : goal.returns-in_default-clause-kept
returns-in_default-clause-kept g c = rw (← c.self.view_is) c.self.invariant.0

pub returns-in_default-clause-counts : goal.returns-in_default-clause-counts
returns-in_default-clause-counts g c =
    stay g.D.Derivation.visits (g.D.Derivation.limit_of c.args.self.now.derivation) (g.D.Derivation.system_of c.args.self.now.derivation) (record { asked = c.args.asked.now; visited = c.args.visited.now })
    false outcomes.Refused c.say.result tt c.say.ensures.outcome

-- 2. no memory to copy the nearest system

pub returns-in-Err-clause-gives : goal.returns-in-Err-clause-gives
returns-in-Err-clause-gives g c =
    lacking g.K.Sink.written g.K.Sink.faults c.args.sink.now c.refuse.new.sink c.refuse.new.out (desk_on g.D.Derivation.system_of c.args.self.now) c.refuse.result _ c.refuse.ensures

pub returns-in-Err-clause-kept : goal.returns-in-Err-clause-kept
returns-in-Err-clause-kept g c = rw (← c.self.view_is) c.self.invariant.0

pub returns-in-Err-clause-counts : goal.returns-in-Err-clause-counts
returns-in-Err-clause-counts g c =
    stay g.D.Derivation.visits (g.D.Derivation.limit_of c.args.self.now.derivation) (g.D.Derivation.system_of c.args.self.now.derivation) (record { asked = c.args.asked.now; visited = c.args.visited.now })
    false outcomes.Memory c.refuse.result tt c.refuse.ensures.outcome

-- 3. a step to it

pub lead-requires-clause-there : goal.lead-requires-clause-there
lead-requires-clause-there g c =
    let there : Some c.in-Some.nearest.now ≡ nearest (kept_along c.args.way c.args.self.now.steps) = c.in-Some.ensures ∙ ap (λ (b : Bench _). nearest (kept_along c.args.way b.steps)) c.self.view_is in
    rw c.step.ensures (leads_somewhere c.args.way c.args.self.now.steps (some_nearest (kept_along c.args.way c.args.self.now.steps) c.in-Some.nearest.now there))

pub returns-in-Ok-clause-gives : goal.returns-in-Ok-clause-gives
returns-in-Ok-clause-gives g c =
    let there : Some c.in-Ok.nearest ≡ nearest (kept_along c.args.way c.args.self.now.steps) = ap (λ (s : System). Some s) c.in-Ok.ensures.cases ∙ c.in-Some.ensures ∙ ap (λ (b : Bench _). nearest (kept_along c.args.way b.steps)) c.self.view_is in
    step_leads_by g.K.Sink.written g.K.Sink.faults c.args.sink.now c.lead.new.sink c.lead.new.out (desk_on g.D.Derivation.system_of c.args.self.now) c.lead.result c.args.way c.step.result c.step.ensures (g.D.Derivation.limit_of c.args.self.now.derivation)
    c.in-Ok.nearest (desk_on g.D.Derivation.system_of c.lead.new.self) there c.lead.ensures.gives

pub returns-in-Ok-clause-counts : goal.returns-in-Ok-clause-counts
returns-in-Ok-clause-counts g c =
    let limit = g.D.Derivation.limit_of c.args.self.now.derivation in
    let there : nearest (kept_along c.args.way c.self.inside.history) ≡ Some c.in-Ok.nearest = sym (ap (λ (s : System). Some s) c.in-Ok.ensures.cases ∙ c.in-Some.ensures) in
    let kept : HasLevels (g.D.Derivation.limit_of c.self.inside.session) c.in-Ok.nearest = nearest_kept (HasLevels (g.D.Derivation.limit_of c.self.inside.session)) (kept_along c.args.way c.self.inside.history) c.in-Ok.nearest (each_along (HasLevels (g.D.Derivation.limit_of c.self.inside.session)) c.args.way c.self.inside.history c.self.invariant.0) there in
    not_refused limit (desk_on g.D.Derivation.system_of c.args.self.now) c.in-Ok.nearest (steps_by c.step.result c.args.self.now.steps (g.D.Derivation.system_of c.args.self.now.derivation))
    (desk_on g.D.Derivation.system_of c.lead.new.self) (rw (← c.self.view_is) kept) g.D.Derivation.visits (g.D.Derivation.system_of c.lead.new.self.derivation)
    (record { asked = c.args.asked.now; visited = c.args.visited.now }) (record { asked = c.lead.new.asked; visited = c.lead.new.visited }) c.lead.result c.lead.ensures.gives c.lead.ensures.counts

-- 4. where it leads

pub returns-in_default-clause-leads : goal.returns-in_default-clause-leads
returns-in_default-clause-leads g c = refusal_tells (nearest (kept_along c.args.way c.args.self.now.steps)) outcomes.Refused c.say.result refl c.say.ensures.outcome

pub returns-in-Err-clause-leads : goal.returns-in-Err-clause-leads
returns-in-Err-clause-leads g c = refusal_tells (nearest (kept_along c.args.way c.args.self.now.steps)) outcomes.Memory c.refuse.result refl c.refuse.ensures.outcome

pub returns-in-Ok-clause-leads : goal.returns-in-Ok-clause-leads
returns-in-Ok-clause-leads g c =
    let there : Some c.in-Ok.nearest ≡ nearest (kept_along c.args.way c.args.self.now.steps) = ap (λ (s : System). Some s) c.in-Ok.ensures.cases ∙ c.in-Some.ensures ∙ ap (λ (b : Bench _). nearest (kept_along c.args.way b.steps)) c.self.view_is in
    tells_same (Some c.in-Ok.nearest) (nearest (kept_along c.args.way c.args.self.now.steps)) c.lead.result (sym there) c.lead.ensures.leads

-- 5. what isn't accepted

pub returns-in_default-clause-unless_accepted : goal.returns-in_default-clause-unless_accepted
returns-in_default-clause-unless_accepted g c = unchanged c.say.result refl

pub returns-in-Err-clause-unless_accepted : goal.returns-in-Err-clause-unless_accepted
returns-in-Err-clause-unless_accepted g c = unchanged c.refuse.result refl
