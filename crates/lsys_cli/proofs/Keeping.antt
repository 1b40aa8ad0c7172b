-- What is said of each system that is kept.
use Rattle.std.proofs.Common.{◌≡◌, ◌-◌, Bool, true, false, Result, Ok, Err, List, [], ◌∷◌, ◌++◌, ◌≢◌, ◌∙◌, length, Some, None, refl, ap, subst}
use Rattle.std.specs.Prelude.{All, IfOk}
use Rattle.std.proofs.lemmas.List.Elements.{All-push, All-nil, All-drop, All-take, All-get_or}
use Rattle.std.proofs.lemmas.Option.{slice_get_within, get_or_from_slice_get}
use Rattle.lsys_io.specs.declared.Failed.{Failed}
use Rattle.lsys_spec.specs.Systems.{System}
use Rattle.lsys_history.specs.Timelines.{Timeline, most_kept, nearest, nothing_kept}
use Rattle.lsys_history.specs.Desks.{EachKept}
use Rattle.lsys_session.specs.declared.outcome.Outcome.{Outcome}
use Rattle.lsys_session.specs.declared.outcome.Outcome.TheVariants as outcomes
use Rattle.lsys_cli.specs.Steps.{is_taken, steps_after, steps_by}
use Rattle.lsys_cli.specs.Views.{bench}
use Rattle.lsys_cli.specs.declared.step.DeskStep.{DeskStep}
use Rattle.lsys_cli.specs.declared.step.DeskStep.TheVariants.{Edit, Undo, Redo}

module _ (P : System → Type 0) where
  pub none_kept : EachKept P nothing_kept
  none_kept = record { past = All-nil P; future = All-nil P }

  step_kept : (step : DeskStep) (h : Timeline System) (s : System) → EachKept P h → P s → EachKept P (steps_by step h s)
  step_kept Edit h s k p = record { past = All-drop P (length (h.past ++ s ∷ []) - most_kept) (h.past ++ s ∷ []) (All-push P h.past s k.past p); future = All-nil P }
  step_kept Undo h s k p = record { past = All-take P (length h.past - 1) h.past k.past; future = All-push P h.future s k.future p }
  step_kept Redo h s k p = record { past = All-push P h.past s k.past p; future = All-take P (length h.future - 1) h.future k.future }

  unless_kept : (taken : Bool) (step : DeskStep) (h : Timeline System) (s : System) → EachKept P h → P s → EachKept P (elim taken [ true ↦ steps_by step h s | false ↦ h ])
  unless_kept true step h s k p = step_kept step h s k p
  unless_kept false step h s k p = k

  pub steps_kept : (led : Result Outcome Failed) (step : DeskStep) (h : Timeline System) (s : System) → EachKept P h → P s → EachKept P (steps_after led step h s)
  steps_kept led step h s k p = unless_kept (is_taken led) step h s k p

  pub nearest_kept : (xs : List System) (s : System) → All P xs → nearest xs ≡ Some s → P s
  nearest_kept xs s h e =
      subst P (get_or_from_slice_get xs (length xs - 1) s s e) (All-get_or P xs (length xs - 1) s (slice_get_within xs (length xs - 1) s e) h)

-- there is a nearest one only where there are some
pub some_nearest : (xs : List System) (s : System) → Some s ≡ nearest xs → xs ≢ []
some_nearest xs s e none = let no : Some s ≡ None = e ∙ ap nearest none in cc

same_bench : {D : Type 0} {a b : D} {h k : Timeline System} → a ≡ b → h ≡ k → bench a h ≡ bench b k
same_bench e f = rw (e, f) refl

-- What isn't accepted leaves the derivation and the steps as they were.
pub stays_unless_accepted : {D : Type 0} (before after : D) {then : Timeline System} (led : Result Outcome Failed) (step : DeskStep) (h : Timeline System) (s : System) → IfOk led (λ o. o ≢ outcomes.Accepted → after ≡ before)
    → then ≡ steps_after led step h s → IfOk led (λ o. o ≢ outcomes.Accepted → bench after then ≡ bench before h)
stays_unless_accepted before after (Ok outcomes.Accepted) step h s d e = λ n. absurd (n refl)
stays_unless_accepted before after (Ok outcomes.Skipped) step h s d e = λ n. same_bench (d n) e
stays_unless_accepted before after (Ok outcomes.Printed) step h s d e = λ n. same_bench (d n) e
stays_unless_accepted before after (Ok outcomes.Refused) step h s d e = λ n. same_bench (d n) e
stays_unless_accepted before after (Ok outcomes.Memory) step h s d e = λ n. same_bench (d n) e
stays_unless_accepted before after (Ok outcomes.Quit) step h s d e = λ n. same_bench (d n) e
stays_unless_accepted before after (Err failed) step h s d e = tt
