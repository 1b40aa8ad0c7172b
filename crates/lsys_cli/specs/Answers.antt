-- What a desk answers, where memory may be wanting.
use Rattle.std.specs.Prelude.{◌≡◌, ℕ, Bool, true, false, ◌&&◌, Option, Some, None, is_some, Result, IfOk, List, []}
use Rattle.lsys_io.specs.Writes.{WasPut}
use Rattle.lsys_io.specs.declared.Failed.{Failed}
use Rattle.lsys_spec.specs.Systems.{System}
use Rattle.lsys_spec.specs.Refusals.{Reply, is_long}
use Rattle.lsys_spec.specs.Replies.{edited, levels_of}
use Rattle.lsys_spec.specs.Costs.{edit_by}
use Rattle.lsys_history.specs.Timelines.{Timeline}
use Rattle.lsys_history.specs.Desks.{Desk, DeskLine, DeskReply, bare_asks, desk_memory_or, led, reply_by}
use Rattle.lsys_history.specs.Costs.{leads_by}
use Rattle.lsys_session.specs.Answers.{ends_session, is_derived, lacks_memory, line_reply, line_spelled, may_lack, refuses}
use Rattle.lsys_session.specs.declared.outcome.Outcome.{Outcome}
use Rattle.lsys_session.specs.declared.outcome.Outcome.TheVariants as outcomes

-- 1. replies to lines without their LF and CR

-- what a line asks of the desk; one that is too long or passed over asks nothing
abbrev pub line_asks : List ℕ → Option DeskLine
line_asks line = elim (is_long line) [ true ↦ None | false ↦ bare_asks line ]

abbrev pub line_answer : ℕ → Desk → List ℕ → DeskReply
line_answer limit d line = reply_by limit d (line_asks line) (line_reply limit d.system line) (line_spelled line)

-- the reply, where memory may be wanting
abbrev pub answer_or_memory : ℕ → Desk → List ℕ → Bool → DeskReply
answer_or_memory limit d line lacks = desk_memory_or (lacks && may_lack line) d (line_answer limit d line)

-- 2. what became of them

-- the outcome is that of this reply
pub record Became (reply : Reply) (o : Outcome) : Type 0 where
  pub refusal : reply.is_refusal ≡ refuses o
  pub memory : reply.is_memory ≡ lacks_memory o
  pub end : reply.ends ≡ ends_session o

-- A reply was put whole, and its desk is kept; or the sink failed, and a front of the reply was written.
pub record WasServed {K : Type 0} (written : K → Option (List ℕ)) (faults : K → ℕ) (sink_old sink_new : K) (held : List ℕ) (answer : DeskReply) (new : Desk) (result : Result Outcome Failed) : Type 0 where
  pub put : WasPut written faults sink_old sink_new [] held answer.reply.text result
  pub empty : held ≡ []
  pub next : IfOk result (λ o. new ≡ answer.next)
  pub became : IfOk result (Became answer.reply)

-- This reply, or `refused memory`, was put whole, and its desk is kept; or the sink failed, and a front of the reply was written.
pub record WasServedOrLacked {K : Type 0} (written : K → Option (List ℕ)) (faults : K → ℕ) (sink_old sink_new : K) (held : List ℕ) (old : Desk) (answer : DeskReply) (new : Desk) (result : Result Outcome Failed) : Type 0 where
  pub lacks : Bool
  pub gives : WasServed written faults sink_old sink_new held (desk_memory_or lacks old answer) new result

-- The definitions' reply to the line, or `refused memory`, was put whole, and its desk is kept; or the sink failed, and a front of
-- the reply was written.
pub record WasReplied {K : Type 0} (written : K → Option (List ℕ)) (faults : K → ℕ) (sink_old sink_new : K) (held : List ℕ) (limit : ℕ) (old new : Desk) (line : List ℕ) (result : Result Outcome Failed) : Type 0 where
  pub lacks : Bool
  pub answer : DeskReply
  pub is : answer ≡ answer_or_memory limit old line lacks
  pub gives : WasServed written faults sink_old sink_new held answer new result

-- the reply of the step that leads to a system
abbrev pub step_answer : ℕ → Desk → System → Timeline System → DeskReply
step_answer limit d to steps = led d (edited limit d.system to (levels_of limit to)) steps

-- 3. counters

-- The line spells an edit that isn't refused by itself, so a refusal is that of its levels. An undo and a redo are refused before
-- any levels are asked for.
abbrev pub is_led : System → List ℕ → Bool
is_led s line = elim (line_asks line) [ None ↦ is_derived s line | Some asked ↦ false ]

-- 4. where a line leads

-- the system that a line leads the desk to, by an edit, an undo or a redo
abbrev pub leads_to : Desk → List ℕ → Option System
leads_to d line = leads_by d (line_asks line) (edit_by d.system (line_spelled line))

abbrev pub is_accepted : Outcome → Bool
is_accepted outcomes.Accepted = true
is_accepted o = false

-- What isn't refused is accepted exactly where it leads to a system.
abbrev pub TellsLead : Option System → Outcome → Type 0
TellsLead next o = refuses o ≡ false → is_accepted o ≡ is_some next
