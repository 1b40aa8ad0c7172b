-- The command that a line's tokens spell, and what reading it answers.
use Rattle.std.specs.Prelude.{◌≡◌, ◌≢◌, ℕ, Bool, true, false, Result, Ok, Err, List, map}
use Rattle.lsys_syntax.specs.Commands as spec
use Rattle.lsys_syntax.specs.Tokens.{Kind}
use Rattle.lsys_syntax.specs.LineMachine.{sentence, stops, too_deep, verdict}
use Rattle.lsys_spec.specs.Refusals.{column_at}
use Rattle.lsys_text.specs.Tokens.{kind_row, token_of}
use Rattle.lsys_text.specs.declared.token_kind.Token.{Token}
use Rattle.lsys_reading.specs.declared.command.ReadCommand.{ReadCommand}
use Rattle.lsys_reading.specs.declared.command.CommandKind.{CommandKind}
use Rattle.lsys_reading.specs.declared.command.CommandKind.TheVariants as kinds
use Rattle.lsys_reading.specs.declared.refusal.ReadingRefusal.{ReadingRefusal}
use Rattle.lsys_reading.specs.declared.refusal.ReadingRefusal.TheVariants as refusals
use Rattle.lsys_reading.specs.Parted.{command_of}

abbrev pub kind_of_command : spec.Command → CommandKind
kind_of_command (spec.print_string n) = kinds.String n
kind_of_command spec.print_segments = kinds.Segments
kind_of_command spec.print_svg = kinds.Svg
kind_of_command spec.print_system = kinds.Show
kind_of_command spec.quit = kinds.Quit
kind_of_command c = kinds.Edit

-- the column of the token at a place of a line of so many bytes, or of the line's end
abbrev pub column_of : ℕ → List Token → ℕ → ℕ
column_of bytes ts place = column_at bytes place (map token_of ts)

-- the line begins with the word of a command; or it is refused at its first token
abbrev pub BeginsCommand : List Kind → Bool → Type 0
BeginsCommand ks true = verdict ks ≢ stops 0
BeginsCommand ks false = verdict ks ≡ stops 0

-- The command that the tokens spell, or the column of the first token with which none goes on; memory is wanted only by a
-- line that begins with the word of a command.
abbrev pub IsParsed : List Token → ℕ → Result ReadCommand ReadingRefusal → Type 0
IsParsed ts bytes (Ok c) = (c ≡ ts) × (verdict (kind_row ts) ≡ sentence (command_of ts))
IsParsed ts bytes (Err (refusals.Token column)) = (place : ℕ) × (verdict (kind_row ts) ≡ stops place) × (column ≡ column_of bytes ts place)
IsParsed ts bytes (Err (refusals.Deep column)) = (place : ℕ) × (verdict (kind_row ts) ≡ too_deep place) × (column ≡ column_of bytes ts place)
IsParsed ts bytes (Err refusals.Memory) = BeginsCommand (kind_row ts) true
