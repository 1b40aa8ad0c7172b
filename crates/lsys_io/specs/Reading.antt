-- A reader of lines as contracts see it, and what it takes.
use Rattle.std.specs.Prelude.{◌≡◌, ℕ, ◌+◌, ◌-◌, ◌<◌, ◌≤◌, List, [], ◌∷◌, ◌++◌, length, take, false, Some, None}
use Rattle.std.specs.declared.option.Option.{Option}
use Rattle.std.specs.Io.KnownBytes.{Consumes, prepend_known}
use Rattle.lsys_syntax.specs.Limits.{most_script_bytes}
use Rattle.lsys_syntax.specs.Lines.{lines_of}
use Rattle.lsys_io.specs.declared.lines.Stage.{Stage}
use Rattle.lsys_io.specs.declared.lines.Stage.TheVariants.{Going, Ended, Refused}
use Rattle.lsys_io.specs.Feeds.{has_lf}

-- the bytes that were read and are in no line yet, how many bytes the lines took, the line last told, and where the reader stands
pub record LineReading : Type 0 where
  pub held : List ℕ
  pub taken : ℕ
  pub line : List ℕ
  pub stage : Stage

-- The bytes of the lines to come, where the source tells what it has left. After the end was seen there are none.
abbrev pub remaining : LineReading → Option (List ℕ) → Option (List ℕ)
remaining reader left = elim reader.stage [ Going ↦ prepend_known reader.held left | Ended ↦ Some [] | Refused refusal ↦ prepend_known reader.held left ]

-- a line with its LF; only the line that the end of the input ends has none
abbrev pub with_end : Stage → List ℕ → List ℕ
with_end Going line = line ++ 10 ∷ []
with_end Ended line = line
with_end (Refused refusal) line = line ++ 10 ∷ []

-- a reader that goes on, or that came to the end
abbrev pub IsNotRefused : Stage → Type 0
IsNotRefused Going = Unit {0}
IsNotRefused Ended = Unit {0}
IsNotRefused (Refused refusal) = ⊥

-- known bytes have this first line, and after it come the others
abbrev pub HasFirstLine : Option (List ℕ) → Option (List ℕ) → List ℕ → Type 0
HasFirstLine None after line = Unit {0}
HasFirstLine (Some bytes) None line = ⊥
HasFirstLine (Some bytes) (Some after) line = lines_of bytes ≡ line ∷ lines_of after

-- A call took this line, which has no LF inside, and its end off the front of what remained.
pub record TakesLine (old new : LineReading) (left_old left_new : Option (List ℕ)) (line : List ℕ) : Type 0 where
  pub no_lf : has_lf line ≡ false
  pub bytes : Consumes (remaining old left_old) (remaining new left_new) (with_end new.stage line)
  pub first : HasFirstLine (remaining old left_old) (remaining new left_new) line
  pub counted : new.taken ≡ old.taken + length (with_end new.stage line)
  pub goes_on : IsNotRefused new.stage

-- The bytes go past the script's limit, and no line ends before it.
pub record PassesLimit (taken : ℕ) (bytes : List ℕ) : Type 0 where
  pub past : most_script_bytes < taken + length bytes
  pub no_end : has_lf (take (most_script_bytes - taken) bytes) ≡ false

-- The bytes held before and those that the source gave in this call make no whole line, and stay within the limit.
pub record LeavesNoLine (old : LineReading) (left_old left_new : Option (List ℕ)) : Type 0 where
  pub given : List ℕ
  pub taken : Consumes left_old left_new given
  pub no_lf : has_lf (old.held ++ given) ≡ false
  pub within : old.taken + length (old.held ++ given) ≤ most_script_bytes
