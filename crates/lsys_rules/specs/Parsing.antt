-- What reading a line's tokens answers.
use Rattle.std.specs.Prelude.{◌≡◌, ℕ, true, Result, Ok, Err, List}
use Rattle.lsys_syntax.specs.LineMachine.{sentence, stops, too_deep, verdict}
use Rattle.lsys_text.specs.Tokens.{kind_row}
use Rattle.lsys_text.specs.declared.token_kind.Token.{Token}
use Rattle.lsys_reading.specs.Parted.{command_of}
use Rattle.lsys_reading.specs.Parsing.{column_of, BeginsCommand}
use Rattle.lsys_reading.specs.declared.refusal.ReadingRefusal as reading
use Rattle.lsys_reading.specs.declared.refusal.ReadingRefusal.TheVariants as parsed
use Rattle.lsys_rules.specs.Lines.{CommandLine}
use Rattle.lsys_rules.specs.declared.refusal.Refusal.{Refusal}
use Rattle.lsys_rules.specs.declared.refusal.Refusal.TheVariants as refusals

-- why a line is no command
abbrev pub of_reading : reading.ReadingRefusal → Refusal
of_reading (parsed.Token column) = refusals.Token column
of_reading (parsed.Deep column) = refusals.Deep column
of_reading parsed.Memory = refusals.Memory

-- The command that the tokens spell, or the column of the first token with which none goes on; memory is wanted only by a
-- line that begins with the word of a command.
abbrev pub IsParsedLine : List Token → ℕ → Result CommandLine Refusal → Type 0
IsParsedLine ts bytes (Ok c) = (c ≡ record { tokens = ts; bytes = bytes }) × (verdict (kind_row ts) ≡ sentence (command_of ts))
IsParsedLine ts bytes (Err (refusals.Token column)) = (place : ℕ) × (verdict (kind_row ts) ≡ stops place) × (column ≡ column_of bytes ts place)
IsParsedLine ts bytes (Err (refusals.Deep column)) = (place : ℕ) × (verdict (kind_row ts) ≡ too_deep place) × (column ≡ column_of bytes ts place)
IsParsedLine ts bytes (Err refusals.Memory) = BeginsCommand (kind_row ts) true
IsParsedLine ts bytes (Err e) = ⊥
