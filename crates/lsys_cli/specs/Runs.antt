-- What becomes of a line that was read, how the counters move at it, and the status of a run that read its script to the end.
use Rattle.std.specs.Prelude.{◌≡◌, ℕ, Bool, true, false, Result, IfOk, List}
use Rattle.std.specs.declared.option.Option.{Option}
use Rattle.lsys_io.specs.declared.Failed.{Failed}
use Rattle.lsys_io.specs.declared.lines.LineRead.{LineRead}
use Rattle.lsys_io.specs.declared.lines.LineRead.TheVariants as reads
use Rattle.lsys_io.specs.declared.lines.LineRefusal.{LineRefusal}
use Rattle.lsys_io.specs.declared.lines.LineRefusal.TheVariants as lines
use Rattle.lsys_spec.specs.Refusals.{refused}
use Rattle.lsys_spec.specs.Costs.{Visits}
use Rattle.lsys_history.specs.Desks.{Desk}
use Rattle.lsys_cli.specs.Answers.{WasReplied, TellsLead, is_led, leads_to}
use Rattle.lsys_session.specs.Answers.{Counters, WasCounted}
use Rattle.lsys_session.specs.Requests.{refusal_line}
use Rattle.lsys_session.specs.Sessions.{WasSaid}
use Rattle.lsys_rules.specs.declared.refusal.Refusal.TheVariants as refusals
use Rattle.lsys_session.specs.declared.outcome.Outcome.{Outcome}
use Rattle.lsys_session.specs.declared.outcome.Outcome.TheVariants as outcomes
use Rattle.lsys_cli.specs.declared.status.Status.{Status}
use Rattle.lsys_cli.specs.declared.status.Status.TheVariants.{Done, Refused, ReadFault, Memory, TooLong}

-- Memory goes before Refused.
abbrev pub status_of : Bool → Bool → Status
status_of refused true = Memory
status_of true false = Refused
status_of false false = Done

-- the status of a run whose next line can't be had
abbrev pub unread : LineRefusal → Status
unread lines.ReadFault = ReadFault
unread lines.TooLong = TooLong

-- the line is refused as too long, and changes nothing
pub record AnswersLong {K : Type 0} (written : K → Option (List ℕ)) (faults : K → ℕ) (sink_old sink_new : K) (held : List ℕ) (old new : Desk) (result : Result Outcome Failed) : Type 0 where
  pub says : WasSaid written faults sink_old sink_new held (refusal_line refusals.LongLine) outcomes.Refused result
  pub stays : new ≡ old

-- the reply to a line that is told, or to one that is too long
abbrev pub AnswersRead : {K : Type 0} → (K → Option (List ℕ)) → (K → ℕ) → K → K → List ℕ → LineRead → ℕ → Desk → Desk → List ℕ → Result Outcome Failed → Type 0
AnswersRead written faults sink_old sink_new held reads.Line limit old new line result = WasReplied written faults sink_old sink_new held limit old new line result
AnswersRead written faults sink_old sink_new held reads.Long limit old new line result = AnswersLong written faults sink_old sink_new held old new result
AnswersRead written faults sink_old sink_new held reads.End limit old new line result = Unit {0}

-- how the counters move at a line that is told, and whether it is accepted
pub record CountsLine (visits : Visits) (limit : ℕ) (old new : Desk) (line : List ℕ) (before after : Counters) (result : Result Outcome Failed) : Type 0 where
  pub counts : WasCounted visits limit (is_led old.system line) old.system new.system before after result
  pub leads : IfOk result (TellsLead (leads_to old line))

-- likewise; at a line that is too long they stay
abbrev pub CountsRead : Visits → LineRead → ℕ → Desk → Desk → List ℕ → Counters → Counters → Result Outcome Failed → Type 0
CountsRead visits reads.Line limit old new line before after result = CountsLine visits limit old new line before after result
CountsRead visits reads.Long limit old new line before after result = after ≡ before
CountsRead visits reads.End limit old new line before after result = Unit {0}
