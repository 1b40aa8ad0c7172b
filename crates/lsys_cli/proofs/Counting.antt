-- How the counters move.
use Rattle.std.proofs.Common.{◌≡◌, ℕ, Bool, true, false, not, ◌&&◌, Option, Some, None, Result, Ok, Err, List, refl, sym, ap, ◌∙◌, subst, arith}
use Rattle.std.specs.Prelude.{IfOk}
use Rattle.lsys_io.specs.declared.Failed.{Failed}
use Rattle.lsys_syntax.specs.Commands.{Command}
use Rattle.lsys_laws.specs.Sessions.{HasLevels}
use Rattle.lsys_spec.specs.Systems.{System}
use Rattle.lsys_spec.specs.Edits as edits
use Rattle.lsys_spec.specs.Levels as L
use Rattle.lsys_spec.specs.Refusals.{Reply, derivation_text, is_long}
use Rattle.lsys_spec.specs.Replies.{edited, levels_of, or_text}
use Rattle.lsys_history.specs.Timelines.{Timeline}
use Rattle.lsys_history.specs.Desks.{Desk, DeskLine, desk_memory_or, led}
use Rattle.lsys_rules.specs.declared.refusal.Refusal.{Refusal}
use Rattle.lsys_rules.specs.declared.refusal.Refusal.TheVariants as refusals
use Rattle.lsys_session.specs.Requests.{IsAskedBy, IsRequest}
use Rattle.lsys_session.specs.Sessions.{refusal_outcome}
use Rattle.lsys_session.specs.Answers.{Counters, WasCounted, Few, is_derived, is_unrefused, leads_on, line_spelled}
use Rattle.lsys_session.specs.Given.{is_edit, outcome_by_reply}
use Rattle.lsys_session.specs.declared.outcome.Outcome.{Outcome}
use Rattle.lsys_session.specs.declared.outcome.Outcome.TheVariants as outcomes
use Rattle.lsys_session.specs.declared.request.Request.{Request}
use Rattle.lsys_session.specs.declared.request.Request.TheVariants.{Nothing, Edit, String, Segments, Svg, Show, Quit}
use Rattle.lsys_cli.specs.Answers.{Became, WasServedOrLacked, is_led, line_asks, step_answer}
use Rattle.lsys_cli.proofs.Answering.{asked_by_line}

-- 1. counters that stay

abbrev pub IsQuiet : Outcome → Type 0
IsQuiet outcomes.Accepted = ⊥
IsQuiet o = Unit {0}

pub refusal_quiet : (e : Refusal) → IsQuiet (refusal_outcome e)
refusal_quiet refusals.Memory = tt
refusal_quiet (refusals.Byte n) = tt
refusal_quiet refusals.LongLine = tt
refusal_quiet (refusals.Token n) = tt
refusal_quiet (refusals.Deep n) = tt
refusal_quiet (refusals.Version n) = tt
refusal_quiet (refusals.Name n) = tt
refusal_quiet (refusals.Duplicate n) = tt
refusal_quiet (refusals.Mixed n) = tt
refusal_quiet (refusals.Label n) = tt
refusal_quiet (refusals.Table n) = tt
refusal_quiet (refusals.Level n) = tt
refusal_quiet (refusals.TooMany n) = tt

module _ (visits : System → System → List (List L.LevelSymbol) → List (List L.LevelSymbol) → ℕ) (limit : ℕ) (s : System) (counters : Counters) where
  few : Few limit counters counters
  few = record { asked = record { from = omega arith; to = omega arith }; visited = record { from = omega arith; to = omega arith } }

  quiet : (derived : Bool) (o : Outcome) → IsQuiet o → WasCounted visits limit derived s s counters counters (Ok o)
  quiet derived outcomes.Skipped q = refl
  quiet derived outcomes.Accepted q = absurd q
  quiet derived outcomes.Printed q = refl
  quiet true outcomes.Refused q = few
  quiet false outcomes.Refused q = refl
  quiet derived outcomes.Memory q = few
  quiet derived outcomes.Quit q = refl

  pub stay : (derived : Bool) (became : Outcome) (result : Result Outcome Failed) → IsQuiet became → IfOk result (λ o. o ≡ became) → WasCounted visits limit derived s s counters counters result
  stay derived became (Ok o) q e = quiet derived o (subst IsQuiet (sym e) q)
  stay derived became (Err failed) q e = tt

-- a reply that is printed or refused
quiet_unless : (lacks refused : Bool) → IsQuiet (elim lacks [ true ↦ outcomes.Memory | false ↦ elim refused [ true ↦ outcomes.Refused | false ↦ outcomes.Printed ] ])
quiet_unless true refused = tt
quiet_unless false true = tt
quiet_unless false false = tt

pub printed_quiet : (r : Reply) → IsQuiet (outcome_by_reply outcomes.Printed r)
printed_quiet r = quiet_unless r.is_memory r.is_refusal

-- 2. lines of a session

asked_so : (s : System) (spelled : Option Command) (r : Request) → IsAskedBy s spelled r → leads_on s spelled ≡ is_edit r
asked_so s spelled Nothing h = ap (leads_on s) h
asked_so s spelled (Edit next) (c, e, q, u, n) = ap (leads_on s) e ∙ ap (λ b. not b && is_unrefused (edits.refusal s c)) q ∙ ap is_unrefused u
asked_so s spelled (String t) (c, e, q) = ap (leads_on s) e ∙ ap (λ b. not b && is_unrefused (edits.refusal s c)) q
asked_so s spelled Segments (c, e, q) = ap (leads_on s) e ∙ ap (λ b. not b && is_unrefused (edits.refusal s c)) q
asked_so s spelled Svg (c, e, q) = ap (leads_on s) e ∙ ap (λ b. not b && is_unrefused (edits.refusal s c)) q
asked_so s spelled Show (c, e, q) = ap (leads_on s) e ∙ ap (λ b. not b && is_unrefused (edits.refusal s c)) q
asked_so s spelled Quit (c, e, q) = ap (leads_on s) e ∙ ap (λ b. not b && is_unrefused (edits.refusal s c)) q

pub derived_so : (s : System) (line : List ℕ) (r : Request) → is_long line ≡ false → IsRequest s line (Ok r) → is_derived s line ≡ is_edit r
derived_so s line r short q = asked_so s (line_spelled line) r (asked_by_line s line r short q)

pub led_session : (s : System) (line : List ℕ) → line_asks line ≡ None → is_led s line ≡ is_derived s line
led_session s line e = ap (λ o. elim o [ None ↦ is_derived s line | Some asked ↦ false ]) e

pub led_own : (s : System) (line : List ℕ) (asked : DeskLine) → line_asks line ≡ Some asked → is_led s line ≡ false
led_own s line asked e = ap (λ o. elim o [ None ↦ is_derived s line | Some asked ↦ false ]) e

-- 3. steps to systems that have their levels

unrefused : (limit : ℕ) (d : Desk) (to : System) (steps : Timeline System) (lacks : Bool) (x : Result (List (List L.LevelSymbol)) (List ℕ)) (levels : List (List L.LevelSymbol)) → x ≡ Ok levels
    → Became (desk_memory_or lacks d (led d (edited limit d.system to x) steps)).reply outcomes.Refused → ⊥
unrefused limit d to steps true x levels e h = let no : true ≡ false = h.memory in cc
unrefused limit d to steps false (Ok xs) levels e h = let no : false ≡ true = h.refusal in cc
unrefused limit d to steps false (Err why) levels e h = cc

module _ {K : Type 0} {written : K → Option (List ℕ)} {faults : K → ℕ} {a b : K} {held : List ℕ} (limit : ℕ) (d : Desk) (to : System) (steps : Timeline System) (new : Desk) (there : HasLevels limit to) where
  pub not_refused : (visits : System → System → List (List L.LevelSymbol) → List (List L.LevelSymbol) → ℕ) (after : System) (before then : Counters) (result : Result Outcome Failed)
      → WasServedOrLacked written faults a b held d (step_answer limit d to steps) new result → WasCounted visits limit true d.system after before then result → WasCounted visits limit false d.system after before then result
  not_refused visits after before then (Ok outcomes.Skipped) g c = c
  not_refused visits after before then (Ok outcomes.Accepted) g c = c
  not_refused visits after before then (Ok outcomes.Printed) g c = c
  not_refused visits after before then (Ok outcomes.Refused) g c =
      absurd (unrefused limit d to steps g.lacks (levels_of limit to) there.0 (ap (or_text derivation_text) there.1) g.gives.became)
  not_refused visits after before then (Ok outcomes.Memory) g c = c
  not_refused visits after before then (Ok outcomes.Quit) g c = c
  not_refused visits after before then (Err failed) g c = tt
