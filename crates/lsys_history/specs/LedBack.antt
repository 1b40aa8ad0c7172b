-- What undo and redo lead back to, and what a cut or a script without desk lines leaves as it was.
use Rattle.std.specs.Prelude.{◌≡◌, ℕ, Bool, List, false, ◌++◌, ◌∷◌, [], Some, true}
use Rattle.lsys_syntax.specs.Lines.{lines_of}
use Rattle.lsys_syntax.specs.Commands.{Command}
use Rattle.lsys_spec.specs.Replies.{reply}
use Rattle.lsys_spec.specs.Output.{out, whole_lines, IsFront}
use Rattle.lsys_spec.specs.Systems.{System}
use Rattle.lsys_spec.specs.Refusals.{Reply}
use Rattle.lsys_laws.specs.Sessions.{HasLevels}
use Rattle.lsys_history.specs.Desks.{HasNoDeskLine, desk_out, numbers_of_whole, Desk, own_reply, undo, redo, spells_edit, session_reply, desk_reply_or_memory}

-- a script without desk lines is answered as without a desk
abbrev pub WithoutDeskLinesNothingChanges : Type 0
WithoutDeskLinesNothingChanges =
    (limit : ℕ) (script : List ℕ) (M : ℕ → Bool) → HasNoDeskLine (lines_of script)
    → desk_out limit script M ≡ out (reply limit) script M

-- the replies to the whole lines of a script's front are a front of the replies to the script
abbrev pub CutScriptsKeepEarlierReplies : Type 0
CutScriptsKeepEarlierReplies =
    (limit : ℕ) (front script : List ℕ) (M : ℕ → Bool) → IsFront front script
    → IsFront (desk_out limit (whole_lines front) (numbers_of_whole front M))
    (desk_out limit script M)

-- where the nearest system of the past has its levels, an undo isn't refused
abbrev pub UndoIsAccepted : Type 0
UndoIsAccepted =
    (limit : ℕ) (d : Desk) (before : List System) (s : System) → HasLevels limit s
    → d.steps.past ≡ before ++ s ∷ [] → (own_reply limit d undo).reply.is_refusal ≡ false

-- and leads back to it
abbrev pub UndoLeadsBack : Type 0
UndoLeadsBack =
    (limit : ℕ) (d : Desk) (before : List System) (s : System) → HasLevels limit s
    → d.steps.past ≡ before ++ s ∷ [] → (own_reply limit d undo).next.system ≡ s

-- where the present one has its levels too, a redo after the undo gives back the whole desk
abbrev pub RedoGivesBackTheDesk : Type 0
RedoGivesBackTheDesk =
    (limit : ℕ) (d : Desk) (before : List System) (s : System) → HasLevels limit s
    → HasLevels limit d.system → d.steps.past ≡ before ++ s ∷ []
    → (own_reply limit (own_reply limit d undo).next redo).next ≡ d

-- an undo after an accepted edit isn't refused
abbrev pub UndoneEditsAreAccepted : Type 0
UndoneEditsAreAccepted =
    (limit : ℕ) (d : Desk) (r : Reply) (c : Command) → HasLevels limit d.system
    → r.is_refusal ≡ false → spells_edit (Some c) ≡ true
    → (own_reply limit (session_reply d r (Some c)).next undo).reply.is_refusal ≡ false

-- and leads back to the system before the edit
abbrev pub UndoneEditsLeadBack : Type 0
UndoneEditsLeadBack =
    (limit : ℕ) (d : Desk) (r : Reply) (c : Command) → HasLevels limit d.system
    → r.is_refusal ≡ false → spells_edit (Some c) ≡ true
    → (own_reply limit (session_reply d r (Some c)).next undo).next.system ≡ d.system

-- a line leaves a desk whose system has its levels such a desk,
-- also where it is refused as out of memory
abbrev pub DesksKeepTheirLevels : Type 0
DesksKeepTheirLevels =
    (limit : ℕ) (lacks : Bool) (d : Desk) (line : List ℕ) → HasLevels limit d.system
    → HasLevels limit (desk_reply_or_memory limit lacks d line).next.system
