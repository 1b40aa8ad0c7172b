-- A script that is read line by line, and what is proved of `show`.
use Rattle.std.specs.Prelude.{◌≡◌, ℕ, false, Option, Some, None, Result, Ok, Err, List, [], ◌∷◌, map}
use Rattle.lsys_syntax.specs.Lines.{lines_of, without_cr}
use Rattle.lsys_syntax.specs.Tokens.{Token, tokens}
use Rattle.lsys_syntax.specs.Commands.{Command}
use Rattle.lsys_syntax.specs.LineMachine.{parse_command}
use Rattle.lsys_spec.specs.Systems.{System, opening, Each, WellFormed, WellSpelled}
use Rattle.lsys_spec.specs.Edits.{Refusal, apply}
use Rattle.lsys_spec.specs.Shown.{show_text}
use Rattle.lsys_spec.specs.Refusals.{is_passed_over}

-- the command that some tokens spell
abbrev pub spelled_by : Result (List Token) ℕ → Option Command
spelled_by (Err c) = None
spelled_by (Ok ts) = parse_command (map (λ t. t.kind) ts)

abbrev pub accepted_system : Result System Refusal → Option System
accepted_system (Err r) = None
accepted_system (Ok s) = Some s

abbrev pub then_command : System → Option Command → Option System
then_command s None = None
then_command s (Some c) = accepted_system (apply s c)

-- the system after a line; None where the line is no command or its command is refused
abbrev pub read_line : Option System → List ℕ → Option System
read_line None line = None
read_line (Some s) line = then_command s (spelled_by (tokens line))

-- the system after lines that are all commands and all accepted
abbrev pub read_lines : Option System → List (List ℕ) → Option System
read_lines o [] = o
read_lines o (line ∷ lines) = read_lines (read_line o line) lines

-- From the opening system each line of the printed script is accepted, and in the end they have made the system that was printed.
abbrev pub IsReadBack : System → Type 0
IsReadBack s = read_lines (Some opening) (lines_of (show_text s)) ≡ Some s

-- A line that a session reads as it stands: no CR at its end, not blank, and no comment.
abbrev pub IsPlainLine : List ℕ → Type 0
IsPlainLine line = (without_cr line ≡ line) × (is_passed_over line ≡ false)

-- a session reads the lines that are printed of a system as they stand
abbrev pub ShownLinesArePlain : Type 0
ShownLinesArePlain =
    (system : System) → WellFormed system → WellSpelled system
    → Each IsPlainLine (lines_of (show_text system))
