-- What becomes of the systems that are kept where a desk goes from one to another.
use Rattle.std.specs.Prelude.{◌≢◌, ℕ, Bool, true, false, Result, Ok, Err, List, [], codes}
use Rattle.lsys_io.specs.declared.Failed.{Failed}
use Rattle.lsys_spec.specs.Systems.{System}
use Rattle.lsys_history.specs.Timelines.{Timeline, after_edit, redone, after_undo}
use Rattle.lsys_history.specs.Desks.{DeskLine, redo, undo}
use Rattle.lsys_session.specs.declared.outcome.Outcome.{Outcome}
use Rattle.lsys_cli.specs.Answers.{is_accepted}
use Rattle.lsys_cli.specs.declared.step.DeskStep.{DeskStep}
use Rattle.lsys_cli.specs.declared.step.DeskStep.TheVariants.{Edit, Undo, Redo}
use Rattle.lsys_cli.specs.declared.step.DeskWay.{DeskWay}
use Rattle.lsys_cli.specs.declared.step.DeskWay.TheVariants.{Back, On}

-- there is a system to which an undo or a redo leads
abbrev pub LeadsSomewhere : DeskStep → Timeline System → Type 0
LeadsSomewhere Edit h = Unit {0}
LeadsSomewhere Undo h = h.past ≢ []
LeadsSomewhere Redo h = h.future ≢ []

-- the steps after this one, which leads away from a system
abbrev pub steps_by : DeskStep → Timeline System → System → Timeline System
steps_by Edit = after_edit
steps_by Undo = after_undo
steps_by Redo = redone

-- a step is taken where it was accepted, and the reply was put
abbrev pub is_taken : Result Outcome Failed → Bool
is_taken (Ok o) = is_accepted o
is_taken (Err failed) = false

-- they change where the step is taken
abbrev pub steps_after : Result Outcome Failed → DeskStep → Timeline System → System → Timeline System
steps_after led step h s = elim (is_taken led) [ true ↦ steps_by step h s | false ↦ h ]

-- the systems that are kept on a way, the nearest one last
abbrev pub kept_along : DeskWay → Timeline System → List System
kept_along Back h = h.past
kept_along On h = h.future

abbrev pub step_along : DeskWay → DeskStep
step_along Back = Undo
step_along On = Redo

-- the line that asks for it, and its word
abbrev pub asked_along : DeskWay → DeskLine
asked_along Back = undo
asked_along On = redo

abbrev pub asked_word : DeskWay → List ℕ
asked_word Back = codes "undo"
asked_word On = codes "redo"
