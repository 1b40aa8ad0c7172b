-- Where a line leads, as its outcome tells.
use Rattle.std.proofs.Common.{◌≡◌, ℕ, Bool, true, false, Option, Some, None, Result, Ok, Err, List, refl, sym, ap, ◌∙◌, subst}
use Rattle.std.specs.Prelude.{IfOk, is_some}
use Rattle.lsys_io.specs.declared.Failed.{Failed}
use Rattle.lsys_syntax.specs.Commands.{Command}
use Rattle.lsys_spec.specs.Systems.{System}
use Rattle.lsys_spec.specs.Edits as edits
use Rattle.lsys_spec.specs.Refusals.{Reply, is_long}
use Rattle.lsys_spec.specs.Replies.{is_query}
use Rattle.lsys_spec.specs.Costs as costs
use Rattle.lsys_spec.specs.Costs.{edit_by}
use Rattle.lsys_history.specs.Desks.{Desk, DeskLine}
use Rattle.lsys_history.specs.Costs.{leads_by, own_leads}
use Rattle.lsys_session.specs.Requests.{IsAskedBy, IsRequest}
use Rattle.lsys_session.specs.Answers.{line_spelled, refuses}
use Rattle.lsys_session.specs.Given.{request_outcome, is_edit, outcome_by_reply}
use Rattle.lsys_session.specs.declared.outcome.Outcome.{Outcome}
use Rattle.lsys_session.specs.declared.outcome.Outcome.TheVariants as outcomes
use Rattle.lsys_session.specs.declared.request.Request.{Request}
use Rattle.lsys_session.specs.declared.request.Request.TheVariants.{Nothing, Edit, String, Segments, Svg, Show, Quit}
use Rattle.lsys_cli.specs.Answers.{TellsLead, is_accepted, leads_to, line_asks}
use Rattle.lsys_cli.proofs.Answering.{asked_by_line}

-- 1. outcomes

refused_tells : (next : Option System) (o : Outcome) → refuses o ≡ true → TellsLead next o
refused_tells next o e f = let no : true ≡ false = sym e ∙ f in cc

pub refusal_tells : (next : Option System) (o : Outcome) (result : Result Outcome Failed) → refuses o ≡ true → IfOk result (λ p. p ≡ o) → IfOk result (TellsLead next)
refusal_tells next o (Ok p) e h = refused_tells next p (ap refuses h ∙ e)
refusal_tells next o (Err f) e h = tt

unless_tells : (next : Option System) (o : Outcome) (memory refused : Bool) → is_accepted o ≡ is_some next
    → TellsLead next (elim memory [ true ↦ outcomes.Memory | false ↦ elim refused [ true ↦ outcomes.Refused | false ↦ o ] ])
unless_tells next o true refused e f = cc
unless_tells next o false true e f = cc
unless_tells next o false false e f = e

-- what became of something that isn't refused, or a refusal
pub unrefused_tells : (next : Option System) (o : Outcome) (reply : Reply) (result : Result Outcome Failed) → is_accepted o ≡ is_some next → IfOk result (λ p. p ≡ outcome_by_reply o reply) → IfOk result (TellsLead next)
unrefused_tells next o reply (Ok p) e h = subst (TellsLead next) (sym h) (unless_tells next o reply.is_memory reply.is_refusal e)
unrefused_tells next o reply (Err f) e h = tt

pub done_unaccepted : (r : Request) → is_edit r ≡ false → is_accepted (request_outcome r) ≡ false
done_unaccepted Nothing n = refl
done_unaccepted (Edit next) n = cc
done_unaccepted (String t) n = refl
done_unaccepted Segments n = refl
done_unaccepted Svg n = refl
done_unaccepted Show n = refl
done_unaccepted Quit n = refl

-- 2. what a line asks of the session

by_query : (s : System) (spelled : Option Command) (c : Command) → spelled ≡ Some c → is_query c ≡ true → edit_by s spelled ≡ None
by_query s spelled c e q = ap (edit_by s) e ∙ ap (λ b. elim b [ true ↦ None | false ↦ costs.changed_unless_refused s c (edits.refusal s c) ]) q

asked_leads : (s : System) (spelled : Option Command) (r : Request) → is_edit r ≡ false → IsAskedBy s spelled r → edit_by s spelled ≡ None
asked_leads s spelled Nothing n h = ap (edit_by s) h
asked_leads s spelled (Edit next) n h = cc
asked_leads s spelled (String t) n (c, e, q) = by_query s spelled c e q
asked_leads s spelled Segments n (c, e, q) = by_query s spelled c e q
asked_leads s spelled Svg n (c, e, q) = by_query s spelled c e q
asked_leads s spelled Show n (c, e, q) = by_query s spelled c e q
asked_leads s spelled Quit n (c, e, q) = by_query s spelled c e q

pub query_leads : (s : System) (line : List ℕ) (r : Request) → is_long line ≡ false → IsRequest s line (Ok r) → is_edit r ≡ false → edit_by s (line_spelled line) ≡ None
query_leads s line r short q n = asked_leads s (line_spelled line) r n (asked_by_line s line r short q)

edit_asked : (s next : System) (spelled : Option Command) → IsAskedBy s spelled (Edit next) → edit_by s spelled ≡ Some next
edit_asked s next spelled (c, e, q, u, changed) =
    ap (edit_by s) e ∙ ap (λ b. elim b [ true ↦ None | false ↦ costs.changed_unless_refused s c (edits.refusal s c) ]) q
    ∙ ap (costs.changed_unless_refused s c) u ∙ ap (λ (t : System). Some t) (sym changed)

pub edit_leads : (s next : System) (line : List ℕ) → is_long line ≡ false → IsRequest s line (Ok (Edit next)) → edit_by s (line_spelled line) ≡ Some next
edit_leads s next line short q = edit_asked s next (line_spelled line) (asked_by_line s line (Edit next) short q)

-- 3. what it asks of the desk

pub session_leads : (d : Desk) (line : List ℕ) → line_asks line ≡ None → leads_to d line ≡ edit_by d.system (line_spelled line)
session_leads d line e = ap (λ o. leads_by d o (edit_by d.system (line_spelled line))) e

pub desk_leads : (d : Desk) (line : List ℕ) (asked : DeskLine) → line_asks line ≡ Some asked → leads_to d line ≡ own_leads d asked
desk_leads d line asked e = ap (λ o. leads_by d o (edit_by d.system (line_spelled line))) e

pub tells_same : (next to : Option System) (result : Result Outcome Failed) → to ≡ next → IfOk result (TellsLead next) → IfOk result (TellsLead to)
tells_same next to result e h = subst (λ o. IfOk result (TellsLead o)) (sym e) h
