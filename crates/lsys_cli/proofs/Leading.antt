-- What is said where a desk goes from one system to another.
use Rattle.std.proofs.Common.{◌≡◌, ℕ, Bool, true, false, Option, Some, None, Result, Ok, Err, List, [], ◌++◌, refl, sym, ap, ◌∙◌, subst}
use Rattle.std.specs.Prelude.{◌≢◌, All, IfOk, codes}
use Rattle.lsys_io.specs.Writes.{WasPut}
use Rattle.lsys_io.specs.declared.Failed.{Failed}
use Rattle.lsys_spec.specs.Systems.{System}
use Rattle.lsys_spec.specs.Levels as L
use Rattle.lsys_spec.specs.Refusals.{Reply, line_feed, refused, refused_memory}
use Rattle.lsys_spec.specs.Pictures.{Turtle}
use Rattle.lsys_spec.specs.Replies.{edited, levels_of, shown}
use Rattle.lsys_spec.specs.Output.{memory_or}
use Rattle.lsys_history.specs.Timelines as timelines
use Rattle.lsys_growth.specs.Growth.{Census, GrowthFault, growth_at}
use Rattle.lsys_lattice.specs.Bounds.{bounds_text, turtle_or_refusal}
use Rattle.lsys_lattice.specs.Bounds as pictures
use Rattle.lsys_history.specs.Desks.{Desk, DeskReply, EachKept, answered, asked_of, at, bounds, bounds_reply, desk, desk_memory_or, growth, growth_reply, led, own_reply, place_reply, redo, stepped_to, turtle_reply, undo}
use Rattle.lsys_rules.specs.declared.refusal.Refusal.TheVariants as refusals
use Rattle.lsys_session.specs.Requests.{refusal_line}
use Rattle.lsys_session.specs.Sessions.{WasSaid}
use Rattle.lsys_session.specs.Answers.{ends_session, lacks_memory, refuses}
use Rattle.lsys_session.specs.Given.{WasLed, WasPrinted, outcome_by_reply}
use Rattle.lsys_session.specs.declared.outcome.Outcome.{Outcome}
use Rattle.lsys_session.specs.declared.outcome.Outcome.TheVariants as outcomes
use Rattle.lsys_cli.specs.Answers.{Became, WasServed, WasServedOrLacked, step_answer}
use Rattle.lsys_cli.specs.Steps.{LeadsSomewhere, asked_along, asked_word, kept_along, step_along, steps_after, steps_by}
use Rattle.lsys_cli.specs.declared.step.DeskStep.{DeskStep}
use Rattle.lsys_cli.specs.declared.step.DeskWay.{DeskWay}
use Rattle.lsys_cli.specs.declared.step.DeskWay.TheVariants.{Back, On}

if_ok : {P : Type 0} (result : Result Outcome Failed) → P → IfOk result (λ o. P)
if_ok (Ok o) p = p
if_ok (Err f) p = tt

became_so : {reply : Reply} {outcome : Outcome} (result : Result Outcome Failed) → IfOk result (λ o. o ≡ outcome) → Became reply outcome → IfOk result (Became reply)
became_so {reply = reply} (Ok o) e b = subst (Became reply) (sym e) b
became_so (Err f) e b = tt

same_desk : (s t : System) (h k : timelines.Timeline System) → s ≡ t → h ≡ k → desk s h ≡ desk t k
same_desk s t h k e f = rw (e, f) refl

module _ {K : Type 0} (written : K → Option (List ℕ)) (faults : K → ℕ) (a b : K) (held : List ℕ) (d : Desk) (result : Result Outcome Failed) where
  -- a reply that leaves the desk as it was
  pub stays : (answer : DeskReply) (o : Outcome) → WasSaid written faults a b held answer.reply.text o result → answer.next ≡ d → Became answer.reply o → WasServed written faults a b held answer d result
  stays answer o says same became = record {
    put = says.put;
    empty = says.empty;
    next = if_ok result (sym same);
    became = became_so result says.outcome became;
  }

  pub lacking : (answer : DeskReply) → WasSaid written faults a b held (refusal_line refusals.Memory) outcomes.Memory result → WasServedOrLacked written faults a b held d answer d result
  lacking answer says = record {
    lacks = true;
    gives = stays (answered (refused_memory d.system) d) outcomes.Memory says refl (record { refusal = refl; memory = refl; end = refl });
  }

  -- 1. an undo or a redo that leads nowhere

  no_undo : (limit : ℕ) → None ≡ timelines.nearest d.steps.past → WasSaid written faults a b held (codes "refused undo\n") outcomes.Refused result → WasServedOrLacked written faults a b held d (own_reply limit d undo) d result
  no_undo limit e says =
      subst (λ o. WasServedOrLacked written faults a b held d (stepped_to limit d (codes "undo") (timelines.after_undo d.steps d.system) o) d result) e
      (record { lacks = false; gives = stays (answered (refused d.system (codes "undo")) d) outcomes.Refused says refl (record { refusal = refl; memory = refl; end = refl }) })

  no_redo : (limit : ℕ) → None ≡ timelines.nearest d.steps.future → WasSaid written faults a b held (codes "refused redo\n") outcomes.Refused result → WasServedOrLacked written faults a b held d (own_reply limit d redo) d result
  no_redo limit e says =
      subst (λ o. WasServedOrLacked written faults a b held d (stepped_to limit d (codes "redo") (timelines.redone d.steps d.system) o) d result) e
      (record { lacks = false; gives = stays (answered (refused d.system (codes "redo")) d) outcomes.Refused says refl (record { refusal = refl; memory = refl; end = refl }) })

  -- 2. an undo or a redo that leads to the nearest system

  undo_leads : (limit : ℕ) (s : System) (new : Desk) → Some s ≡ timelines.nearest d.steps.past → WasServedOrLacked written faults a b held d (step_answer limit d s (timelines.after_undo d.steps d.system)) new result
      → WasServedOrLacked written faults a b held d (own_reply limit d undo) new result
  undo_leads limit s new e g = subst (λ o. WasServedOrLacked written faults a b held d (stepped_to limit d (codes "undo") (timelines.after_undo d.steps d.system) o) new result) e g

  redo_leads : (limit : ℕ) (s : System) (new : Desk) → Some s ≡ timelines.nearest d.steps.future → WasServedOrLacked written faults a b held d (step_answer limit d s (timelines.redone d.steps d.system)) new result
      → WasServedOrLacked written faults a b held d (own_reply limit d redo) new result
  redo_leads limit s new e g = subst (λ o. WasServedOrLacked written faults a b held d (stepped_to limit d (codes "redo") (timelines.redone d.steps d.system) o) new result) e g

  pub no_step : (way : DeskWay) (limit : ℕ) → None ≡ timelines.nearest (kept_along way d.steps) → WasSaid written faults a b held (codes "refused " ++ asked_word way ++ line_feed) outcomes.Refused result
      → WasServedOrLacked written faults a b held d (own_reply limit d (asked_along way)) d result
  no_step Back limit e says = no_undo limit e says
  no_step On limit e says = no_redo limit e says

  pub step_leads : (way : DeskWay) (limit : ℕ) (s : System) (new : Desk) → Some s ≡ timelines.nearest (kept_along way d.steps)
      → WasServedOrLacked written faults a b held d (step_answer limit d s (steps_by (step_along way) d.steps d.system)) new result → WasServedOrLacked written faults a b held d (own_reply limit d (asked_along way)) new result
  step_leads Back limit s new e g = undo_leads limit s new e g
  step_leads On limit s new e g = redo_leads limit s new e g

  pub step_leads_by : (way : DeskWay) (step : DeskStep) → step ≡ step_along way → (limit : ℕ) (s : System) (new : Desk) → Some s ≡ timelines.nearest (kept_along way d.steps)
      → WasServedOrLacked written faults a b held d (step_answer limit d s (steps_by step d.steps d.system)) new result → WasServedOrLacked written faults a b held d (own_reply limit d (asked_along way)) new result
  step_leads_by way step is limit s new e g =
      step_leads way limit s new e (subst (λ (x : DeskStep). WasServedOrLacked written faults a b held d (step_answer limit d s (steps_by x d.steps d.system)) new result) is g)

  -- 3. growth

  told : (lacks : Bool) (g : Result Census GrowthFault) → WasSaid written faults a b held (memory_or lacks d.system (growth_reply d.system g)).text (outcome_by_reply outcomes.Printed (memory_or lacks d.system (growth_reply d.system g))) result
      → WasServed written faults a b held (desk_memory_or lacks d (answered (growth_reply d.system g) d)) d result
  told true g says = stays (answered (refused_memory d.system) d) outcomes.Memory says refl (record { refusal = refl; memory = refl; end = refl })
  told false (Ok c) says = stays (answered (growth_reply d.system (Ok c)) d) outcomes.Printed says refl (record { refusal = refl; memory = refl; end = refl })
  told false (Err f) says = stays (answered (growth_reply d.system (Err f)) d) outcomes.Refused says refl (record { refusal = refl; memory = refl; end = refl })

  pub growth_told : (limit level : ℕ) → WasPrinted written faults a b held d.system (growth_reply d.system (growth_at d.system level)) result → WasServedOrLacked written faults a b held d (own_reply limit d (growth level)) d result
  growth_told limit level p = record { lacks = p.lacks; gives = told p.lacks (growth_at d.system level) p.says }

  -- 4. a picture

  flags : (m r : Bool) → m ≡ false → let o : Outcome = elim m [ true ↦ outcomes.Memory | false ↦ elim r [ true ↦ outcomes.Refused | false ↦ outcomes.Printed ] ] in
      (r ≡ refuses o) × (m ≡ lacks_memory o) × (false ≡ ends_session o)
  flags true r e = cc
  flags false true e = (refl, refl, refl)
  flags false false e = (refl, refl, refl)

  queried : (asked : Reply) → asked.is_memory ≡ false → asked.ends ≡ false → WasPrinted written faults a b held d.system asked result → WasServedOrLacked written faults a b held d (answered asked d) d result
  queried asked m e p = record { lacks = p.lacks; gives = by p.lacks p.says }
    where
      by : (lacks : Bool) → WasSaid written faults a b held (memory_or lacks d.system asked).text (outcome_by_reply outcomes.Printed (memory_or lacks d.system asked)) result
          → WasServed written faults a b held (desk_memory_or lacks d (answered asked d)) d result
      by true says = stays (answered (refused_memory d.system) d) outcomes.Memory says refl (record { refusal = refl; memory = refl; end = refl })
      by false says =
          let f = flags asked.is_memory asked.is_refusal m in
          stays (answered asked d) (outcome_by_reply outcomes.Printed asked) says refl (record { refusal = f.0; memory = f.1; end = e ∙ f.2 })

  shown_plain : {A : Type 0} (text : A → List ℕ) (r : Result A (List ℕ)) → ((shown d.system text r).is_memory ≡ false) × ((shown d.system text r).ends ≡ false)
  shown_plain text (Ok x) = (refl, refl)
  shown_plain text (Err why) = (refl, refl)

  turtle_plain : (column : ℕ) (r : Result (Option Turtle) (List ℕ)) → ((turtle_reply d.system column r).is_memory ≡ false) × ((turtle_reply d.system column r).ends ≡ false)
  turtle_plain column (Ok (Some t)) = (refl, refl)
  turtle_plain column (Ok None) = (refl, refl)
  turtle_plain column (Err why) = (refl, refl)

  pub bounds_told : (limit : ℕ) → WasPrinted written faults a b held d.system (bounds_reply d.system (levels_of limit d.system)) result
      → WasServedOrLacked written faults a b held d (own_reply limit d bounds) d result
  bounds_told limit p =
      let plain = shown_plain bounds_text (asked_of (pictures.bounds d.system) (levels_of limit d.system)) in
      queried (bounds_reply d.system (levels_of limit d.system)) plain.0 plain.1 p

  pub place_told : (limit n column : ℕ) → WasPrinted written faults a b held d.system (place_reply d.system n column (levels_of limit d.system)) result
      → WasServedOrLacked written faults a b held d (own_reply limit d (at n column)) d result
  place_told limit n column p =
      let plain = turtle_plain column (asked_of (λ x. turtle_or_refusal d.system x n) (levels_of limit d.system)) in
      queried (place_reply d.system n column (levels_of limit d.system)) plain.0 plain.1 p

-- 5. a step

module _ {K : Type 0} (written : K → Option (List ℕ)) (faults : K → ℕ) (a b : K) (held : List ℕ) (limit : ℕ) (d : Desk) (to : System) (step : DeskStep) where
  abbrev steps : timelines.Timeline System
  steps = steps_by step d.steps d.system

  led_so : (lacks : Bool) (x : Result (List (List L.LevelSymbol)) (List ℕ)) (o : Outcome) (new : System) (h : timelines.Timeline System) → let r = memory_or lacks d.system (edited limit d.system to x) in
      WasSaid written faults a b held r.text (outcome_by_reply outcomes.Accepted r) (Ok o) → new ≡ r.next → h ≡ steps_after (Ok o) step d.steps d.system
      → WasServed written faults a b held (desk_memory_or lacks d (led d (edited limit d.system to x) steps)) (desk new h) (Ok o)
  led_so true x o new h says n e = record {
    put = says.put;
    empty = says.empty;
    next = same_desk new d.system h d.steps n (e ∙ ap (λ o. steps_after (Ok o) step d.steps d.system) says.outcome);
    became = subst (Became (refused_memory d.system)) (sym says.outcome) (record { refusal = refl; memory = refl; end = refl });
  }
  led_so false (Err why) o new h says n e = record {
    put = says.put;
    empty = says.empty;
    next = same_desk new d.system h d.steps n (e ∙ ap (λ o. steps_after (Ok o) step d.steps d.system) says.outcome);
    became = subst (Became (refused d.system why)) (sym says.outcome) (record { refusal = refl; memory = refl; end = refl });
  }
  led_so false (Ok levels) o new h says n e = record {
    put = says.put;
    empty = says.empty;
    next = same_desk new to h steps n (e ∙ ap (λ o. steps_after (Ok o) step d.steps d.system) says.outcome);
    became = subst (Became (edited limit d.system to (Ok levels))) (sym says.outcome) (record { refusal = refl; memory = refl; end = refl });
  }

  step_taken : (o : Outcome) (new : System) (h : timelines.Timeline System) → WasLed written faults a b held limit d.system to new (Ok o) → h ≡ steps_after (Ok o) step d.steps d.system
      → WasServedOrLacked written faults a b held d (step_answer limit d to steps) (desk new h) (Ok o)
  step_taken o new h l e =
      let r = memory_or l.lacks d.system (edited limit d.system to (levels_of limit to)) in
      let says : WasSaid written faults a b held r.text (outcome_by_reply outcomes.Accepted r) (Ok o) =
      subst (λ (q : Reply). WasSaid written faults a b held q.text (outcome_by_reply outcomes.Accepted q) (Ok o)) l.is l.says in
      record { lacks = l.lacks; gives = led_so l.lacks (levels_of limit to) o new h says (l.next ∙ ap (λ (q : Reply). q.next) l.is) e }

  same_text : (lacks : Bool) (x : Result (List (List L.LevelSymbol)) (List ℕ)) → (memory_or lacks d.system (edited limit d.system to x)).text ≡ (desk_memory_or lacks d (led d (edited limit d.system to x) steps)).reply.text
  same_text true x = refl
  same_text false (Ok levels) = refl
  same_text false (Err why) = refl

  -- the sink failed at it
  step_failed : (failed : Failed) (middle : System) (new : Desk) → WasLed written faults a b held limit d.system to middle (Err failed)
      → WasServedOrLacked written faults a b held d (step_answer limit d to steps) new (Err failed)
  step_failed failed middle new l = record {
    lacks = l.lacks;
    gives = record {
      put = subst (λ (text : List ℕ). WasPut {A = Outcome} written faults a b [] held text (Err failed)) (ap (λ (q : Reply). q.text) l.is ∙ same_text l.lacks (levels_of limit to)) l.says.put;
      empty = l.says.empty;
      next = tt;
      became = tt;
    };
  }

  pub step_led : (result : Result Outcome Failed) (new : System) (h : timelines.Timeline System) → WasLed written faults a b held limit d.system to new result → h ≡ steps_after result step d.steps d.system
      → WasServedOrLacked written faults a b held d (step_answer limit d to steps) (desk new h) result
  step_led (Ok o) new h l e = step_taken o new h l e
  step_led (Err failed) new h l e = step_failed failed new (desk new h) l

-- 6. along the systems that are kept

pub leads_somewhere : (way : DeskWay) (h : timelines.Timeline System) → kept_along way h ≢ [] → LeadsSomewhere (step_along way) h
leads_somewhere Back h some = some
leads_somewhere On h some = some

pub each_along : (P : System → Type 0) (way : DeskWay) (h : timelines.Timeline System) → EachKept P h → All P (kept_along way h)
each_along P Back h k = k.past
each_along P On h k = k.future
