use Rattle.std.proofs.Common.{◌∙◌, Ok, Err, None, Some, refl, ap, subst}
use Rattle.lsys_spec.specs.Systems.{System}
use Rattle.lsys_session.specs.Answers.{is_derived}
use Rattle.lsys_session.specs.Requests.{IsRequest}
use Rattle.lsys_session.specs.Sessions.{refusal_outcome}
use Rattle.lsys_session.specs.declared.request.Request.TheVariants.{Edit}
use Rattle.lsys_session.proofs.Answering.{short_by}
use Rattle.lsys_cli.specs.Views.{Bench, bench, desk_on}
use Rattle.lsys_cli.proofs.Answering.{by_edit, by_query, by_refusal, no_edit, short_asks}
use Rattle.lsys_cli.proofs.Counting.{derived_so, refusal_quiet, stay}
use Rattle.lsys_spec.specs.Costs.{edit_by}
use Rattle.lsys_session.specs.Answers.{line_spelled}
use Rattle.lsys_session.specs.Given.{request_outcome, given_reply}
use Rattle.lsys_cli.proofs.Answering.{refusal_refuses}
use Rattle.lsys_cli.proofs.Telling.{done_unaccepted, edit_leads, query_leads, refusal_tells, tells_same, unrefused_tells}
use Rattle.lsys_session.proofs.Whole.{unchanged}
use Rattle.lsys_cli.proofs.desk.Desk.session_line.Goals as goal

-- 1. a line that is refused by itself

pub returns-in-Err-clause-answers : goal.returns-in-Err-clause-answers
returns-in-Err-clause-answers g c =
    let s = g.D.Derivation.system_of c.args.self.now.derivation in
    let asked : IsRequest s c.args.line.now (Err c.in-Err.refusal) =
    subst (λ (t : System). IsRequest t c.args.line.now (Err c.in-Err.refusal)) (c.system.ensures.system ∙ ap (λ (b : Bench _). g.D.Derivation.system_of b.derivation) c.self.view_is) c.in-Err.ensures in
    by_refusal g.K.Sink.written g.K.Sink.faults c.args.sink.now c.refuse.new.sink c.refuse.new.out (g.D.Derivation.limit_of c.args.self.now.derivation) (desk_on g.D.Derivation.system_of c.args.self.now) c.args.line.now
    c.in-Err.refusal c.refuse.result (short_by c.args.line.now c.requires.short) c.requires.other asked c.refuse.ensures

pub returns-in-Err-clause-kept : goal.returns-in-Err-clause-kept
returns-in-Err-clause-kept g c = rw (← c.self.view_is) c.self.invariant.0

pub returns-in-Err-clause-counts : goal.returns-in-Err-clause-counts
returns-in-Err-clause-counts g c =
    let s = g.D.Derivation.system_of c.args.self.now.derivation in
    stay g.D.Derivation.visits (g.D.Derivation.limit_of c.args.self.now.derivation) s (record { asked = c.args.asked.now; visited = c.args.visited.now })
    (is_derived s c.args.line.now) (refusal_outcome c.in-Err.refusal) c.refuse.result (refusal_quiet c.in-Err.refusal) c.refuse.ensures.outcome

-- 2. an edit

pub returns-in-Edit-clause-answers : goal.returns-in-Edit-clause-answers
returns-in-Edit-clause-answers g c =
    let s = g.D.Derivation.system_of c.args.self.now.derivation in
    let short = short_by c.args.line.now c.requires.short in
    let asked : IsRequest s c.args.line.now (Ok (Edit c.in-Edit.next)) =
    rw c.in-Edit.is at (subst (λ (t : System). IsRequest t c.args.line.now (Ok c.in-Ok.request)) (c.system.ensures.system ∙ ap (λ (b : Bench _). g.D.Derivation.system_of b.derivation) c.self.view_is) c.in-Ok.ensures) in
    by_edit g.K.Sink.written g.K.Sink.faults c.args.sink.now c.lead.new.sink c.lead.new.out (g.D.Derivation.limit_of c.args.self.now.derivation) (desk_on g.D.Derivation.system_of c.args.self.now) c.args.line.now
    c.in-Edit.next (desk_on g.D.Derivation.system_of c.lead.new.self) c.lead.result short (short_asks c.args.line.now short ∙ c.requires.other) asked c.lead.ensures.gives

pub returns-in-Edit-clause-counts : goal.returns-in-Edit-clause-counts
returns-in-Edit-clause-counts g c =
    let s = g.D.Derivation.system_of c.args.self.now.derivation in
    let short = short_by c.args.line.now c.requires.short in
    let asked : IsRequest s c.args.line.now (Ok (Edit c.in-Edit.next)) =
    rw c.in-Edit.is at (subst (λ (t : System). IsRequest t c.args.line.now (Ok c.in-Ok.request)) (c.system.ensures.system ∙ ap (λ (b : Bench _). g.D.Derivation.system_of b.derivation) c.self.view_is) c.in-Ok.ensures) in
    rw (derived_so s c.args.line.now (Edit c.in-Edit.next) short asked) c.lead.ensures.counts

-- 3. anything else that a session answers

pub answer-requires-clause-level : goal.answer-requires-clause-level
answer-requires-clause-level g c = rw c.system.ensures.system at c.in-Ok.ensures.1

pub invariant_of-self : goal.invariant_of-self
invariant_of-self g c = rw (c.answer.ensures.stays (no_edit c.in-Ok.request c.in_default.not-Edit)) c.self.invariant

pub returns-in_default-clause-answers : goal.returns-in_default-clause-answers
returns-in_default-clause-answers g c =
    let s = g.D.Derivation.system_of c.self.inside.session in
    let before : Bench _ = bench c.self.inside.session c.self.inside.history in
    let asked : IsRequest s c.args.line.now (Ok c.in-Ok.request) = subst (λ (t : System). IsRequest t c.args.line.now (Ok c.in-Ok.request)) c.system.ensures.system c.in-Ok.ensures in
    rw (← c.self.view_is) (by_query g.K.Sink.written g.K.Sink.faults c.args.sink.now c.answer.new.sink c.answer.new.out (g.D.Derivation.limit_of c.self.inside.session) (desk_on g.D.Derivation.system_of before) c.args.line.now
    c.in-Ok.request (g.D.Derivation.system_of c.answer.new.self) c.answer.result (short_by c.args.line.now c.requires.short) c.requires.other asked (no_edit c.in-Ok.request c.in_default.not-Edit) c.answer.ensures.gives)

pub returns-in_default-clause-limit : goal.returns-in_default-clause-limit
returns-in_default-clause-limit g c = rw (← c.self.view_is) c.answer.ensures.limit

pub returns-in_default-clause-kept : goal.returns-in_default-clause-kept
returns-in_default-clause-kept g c = rw c.answer.ensures.limit c.self.invariant.0

pub returns-in_default-clause-counts : goal.returns-in_default-clause-counts
returns-in_default-clause-counts g c =
    let s = g.D.Derivation.system_of c.self.inside.session in
    let short = short_by c.args.line.now c.requires.short in
    let asked : IsRequest s c.args.line.now (Ok c.in-Ok.request) = subst (λ (t : System). IsRequest t c.args.line.now (Ok c.in-Ok.request)) c.system.ensures.system c.in-Ok.ensures in
    rw (← c.self.view_is) (rw (derived_so s c.args.line.now c.in-Ok.request short asked) c.answer.ensures.counts)

-- 4. where it leads

pub returns-in-Err-clause-leads : goal.returns-in-Err-clause-leads
returns-in-Err-clause-leads g c = refusal_tells (edit_by (g.D.Derivation.system_of c.args.self.now.derivation) (line_spelled c.args.line.now)) (refusal_outcome c.in-Err.refusal) c.refuse.result (refusal_refuses c.in-Err.refusal) c.refuse.ensures.outcome

pub returns-in-Edit-clause-leads : goal.returns-in-Edit-clause-leads
returns-in-Edit-clause-leads g c =
    let s = g.D.Derivation.system_of c.args.self.now.derivation in
    let short = short_by c.args.line.now c.requires.short in
    let asked : IsRequest s c.args.line.now (Ok (Edit c.in-Edit.next)) =
    rw c.in-Edit.is at (subst (λ (t : System). IsRequest t c.args.line.now (Ok c.in-Ok.request)) (c.system.ensures.system ∙ ap (λ (b : Bench _). g.D.Derivation.system_of b.derivation) c.self.view_is) c.in-Ok.ensures) in
    tells_same (Some c.in-Edit.next) (edit_by s (line_spelled c.args.line.now)) c.lead.result (edit_leads s c.in-Edit.next c.args.line.now short asked) c.lead.ensures.leads

pub returns-in_default-clause-leads : goal.returns-in_default-clause-leads
returns-in_default-clause-leads g c =
    let s = g.D.Derivation.system_of c.self.inside.session in
    let short = short_by c.args.line.now c.requires.short in
    let r = c.in-Ok.request in
    let asked : IsRequest s c.args.line.now (Ok r) = subst (λ (t : System). IsRequest t c.args.line.now (Ok r)) c.system.ensures.system c.in-Ok.ensures in
    let no_edits = no_edit r c.in_default.not-Edit in
    let gives = c.answer.ensures.gives in
    rw (← c.self.view_is) (tells_same None (edit_by s (line_spelled c.args.line.now)) c.answer.result (query_leads s c.args.line.now r short asked no_edits)
    (unrefused_tells None (request_outcome r) (given_reply (g.D.Derivation.limit_of c.self.inside.session) s r gives.lacks) c.answer.result (done_unaccepted r no_edits) gives.says.outcome))

-- 5. what isn't accepted

pub returns-in-Err-clause-unless_accepted : goal.returns-in-Err-clause-unless_accepted
returns-in-Err-clause-unless_accepted g c = unchanged c.refuse.result refl

pub returns-in_default-clause-unless_accepted : goal.returns-in_default-clause-unless_accepted
returns-in_default-clause-unless_accepted g c =
    unchanged c.answer.result (ap (λ s. bench s c.self.inside.history) (c.answer.ensures.stays (no_edit c.in-Ok.request c.in_default.not-Edit)) ∙ c.self.view_is)
