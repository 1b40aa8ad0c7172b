-- What a call of a desk leaves, told of the parameters that it is lent.
use Rattle.std.specs.Prelude.{ℕ, Bool, Option, Result, List, slice_get}
use Rattle.lsys_syntax.specs.Calls.{Lent}
use Rattle.lsys_io.specs.declared.Failed.{Failed}
use Rattle.lsys_io.specs.declared.Sink.{Ghosts as SinkOf}
use Rattle.lsys_spec.specs.Systems.{System}
use Rattle.lsys_spec.specs.Costs.{Visits, edit_by}
use Rattle.lsys_spec.specs.Replies.{levels_of}
use Rattle.lsys_laws.specs.Sessions.{HasLevels}
use Rattle.lsys_level.specs.Spots.{Spotted}
use Rattle.lsys_match.specs.Derivations.{IsDerived}
use Rattle.lsys_spec.specs.Pictures.{Pose}
use Rattle.lsys_growth.specs.Growth.{growth_at}
use Rattle.lsys_history.specs.Costs.{own_leads}
use Rattle.lsys_history.specs.Desks.{EachKept, bounds_reply, growth_reply, own_reply, place_reply}
use Rattle.lsys_history.specs.Desks as desks
use Rattle.lsys_session.specs.Answers.{WasCounted, is_derived, line_spelled}
use Rattle.lsys_session.specs.Calls.{Prints, Says, counters}
use Rattle.lsys_session.specs.declared.outcome.Outcome.{Outcome}
use Rattle.lsys_cli.specs.Answers.{WasReplied, WasServedOrLacked, is_led, step_answer}
use Rattle.lsys_cli.specs.Motions.{pose_line, pose_outcome}
use Rattle.lsys_cli.specs.Steps.{steps_by}
use Rattle.lsys_cli.specs.Views.{Bench, desk_line_of, desk_on}
use Rattle.lsys_cli.specs.declared.desk_line.DeskLine.{DeskLine}
use Rattle.lsys_cli.specs.declared.step.DeskStep.{DeskStep}

-- 1. what is written, and which desk is kept; its derivations are told by their limits and systems

-- the reply to a line, or `refused memory`
abbrev pub Replies : {K D : Type 0} → SinkOf K → Lent K → Lent (List ℕ) → (D → ℕ) → (D → System) → Lent (Bench D) → List ℕ → Result Outcome Failed → Type 0
Replies K sink out limit_of system_of self line result =
    WasReplied K.written K.faults sink.entry.now sink.exit.now out.exit.now (limit_of self.entry.now.derivation)
    (desk_on system_of self.entry.now) (desk_on system_of self.exit.now) line result

-- the reply to what a line asks of the desk, or `refused memory`
abbrev pub Serves : {K D : Type 0} → SinkOf K → Lent K → Lent (List ℕ) → (D → ℕ) → (D → System) → Lent (Bench D) → desks.DeskLine → Result Outcome Failed → Type 0
Serves K sink out limit_of system_of self asked result =
    WasServedOrLacked K.written K.faults sink.entry.now sink.exit.now out.exit.now (desk_on system_of self.entry.now)
    (own_reply (limit_of self.entry.now.derivation) (desk_on system_of self.entry.now) asked) (desk_on system_of self.exit.now) result

-- the reply of a step that leads to a system, or `refused memory`
abbrev pub ServesStep : {K D : Type 0} → DeskStep → System → SinkOf K → Lent K → Lent (List ℕ) → (D → ℕ) → (D → System) → Lent (Bench D) → Result Outcome Failed → Type 0
ServesStep step to K sink out limit_of system_of self result =
    WasServedOrLacked K.written K.faults sink.entry.now sink.exit.now out.exit.now (desk_on system_of self.entry.now)
    (step_answer (limit_of self.entry.now.derivation) (desk_on system_of self.entry.now) to
    (steps_by step self.entry.now.steps (system_of self.entry.now.derivation)))
    (desk_on system_of self.exit.now) result

-- the reply to this line of the desk, or `refused memory`
abbrev pub ServesLine : {K D : Type 0} → SinkOf K → Lent K → Lent (List ℕ) → (D → ℕ) → (D → System) → Lent (Bench D) → DeskLine → Result Outcome Failed → Type 0
ServesLine K sink out limit_of system_of self line result = Serves K sink out limit_of system_of self (desk_line_of line) result

-- a derivation's reply to `bounds`, or `refused memory`
abbrev pub SaysBounds : {K D : Type 0} → SinkOf K → Lent K → Lent (List ℕ) → (D → ℕ) → (D → System) → D → Result Outcome Failed → Type 0
SaysBounds K sink out limit_of system_of d result =
    Prints K sink out (system_of d) (bounds_reply (system_of d) (levels_of (limit_of d) (system_of d))) result

-- a derivation's reply to `at` with a place whose number stands at a column, or `refused memory`
abbrev pub SaysAt : {K D : Type 0} → ℕ → ℕ → SinkOf K → Lent K → Lent (List ℕ) → (D → ℕ) → (D → System) → D → Result Outcome Failed → Type 0
SaysAt place column K sink out limit_of system_of d result =
    Prints K sink out (system_of d) (place_reply (system_of d) place column (levels_of (limit_of d) (system_of d))) result

-- the same of a desk's derivation
abbrev pub ServesAt : {K D : Type 0} → ℕ → ℕ → SinkOf K → Lent K → Lent (List ℕ) → (D → ℕ) → (D → System) → Lent (Bench D) → Result Outcome Failed → Type 0
ServesAt place column K sink out limit_of system_of self result = SaysAt place column K sink out limit_of system_of self.entry.now.derivation result

-- a system's reply to `growth` at a level, or `refused memory`
abbrev pub SaysGrowth : {K : Type 0} → SinkOf K → Lent K → Lent (List ℕ) → System → ℕ → Result Outcome Failed → Type 0
SaysGrowth K sink out s level result = Prints K sink out s (growth_reply s (growth_at s level)) result

-- the pose at a place among these, or the refusal of its number
abbrev pub SaysPose : {K : Type 0} → SinkOf K → Lent K → Lent (List ℕ) → ℕ → List Pose → ℕ → Result Outcome Failed → Type 0
SaysPose K sink out column poses place result =
    Says K sink out (pose_line column (slice_get poses place)) (pose_outcome (slice_get poses place)) result

-- 2. what is kept

-- the levels are those of the derivation's system under its limit
abbrev pub HasItsLevels : {D : Type 0} → (D → ℕ) → (D → System) → (D → List (List Spotted)) → D → Type 0
HasItsLevels limit_of system_of levels d = IsDerived (system_of d) (limit_of d) (levels d)

-- where the kept systems had their levels, those that are kept now have theirs
abbrev pub KeepsLevels : {D : Type 0} → (D → ℕ) → Lent (Bench D) → Type 0
KeepsLevels limit_of self =
    EachKept (HasLevels (limit_of self.entry.now.derivation)) self.entry.now.steps → EachKept (HasLevels (limit_of self.exit.now.derivation)) self.exit.now.steps

-- 3. where a line leads

-- the system that an edit spelled by the line leads to
abbrev pub edit_spelled : System → List ℕ → Option System
edit_spelled s line = edit_by s (line_spelled line)

-- the system that a line leads to which asks something of the desk
abbrev pub own_lead : {D : Type 0} → (D → System) → Bench D → DeskLine → Option System
own_lead system_of d line = own_leads (desk_on system_of d) (desk_line_of line)

-- 4. counters: of the questions that are asked, and of the entries that are read

-- The counters rise by what the desk's step needs. `derived` tells whether a refusal is that of levels.
abbrev pub CountsStep : {D : Type 0} → Visits → (D → ℕ) → (D → System) → Lent (Bench D) → Lent ℕ → Lent ℕ → Bool → Result Outcome Failed → Type 0
CountsStep visits limit_of system_of self asked visited derived result =
    WasCounted visits (limit_of self.entry.now.derivation) derived (system_of self.entry.now.derivation) (system_of self.exit.now.derivation)
    (counters asked.entry.now visited.entry.now) (counters asked.exit.now visited.exit.now) result

-- at any line
abbrev pub CountsLed : {D : Type 0} → Visits → (D → ℕ) → (D → System) → Lent (Bench D) → Lent ℕ → Lent ℕ → List ℕ → Result Outcome Failed → Type 0
CountsLed visits limit_of system_of self asked visited line result =
    CountsStep visits limit_of system_of self asked visited (is_led (system_of self.entry.now.derivation) line) result

-- at a line that asks nothing of the desk
abbrev pub CountsOther : {D : Type 0} → Visits → (D → ℕ) → (D → System) → Lent (Bench D) → Lent ℕ → Lent ℕ → List ℕ → Result Outcome Failed → Type 0
CountsOther visits limit_of system_of self asked visited line result =
    CountsStep visits limit_of system_of self asked visited (is_derived (system_of self.entry.now.derivation) line) result
