-- What a call leaves that is lent a reader of lines and its source.
use Rattle.std.specs.Prelude.{◌≡◌, ℕ, ◌<◌, ◌≤◌, List, [], length, Result, IfSome}
use Rattle.std.specs.declared.option.Option.{Option}
use Rattle.lsys_syntax.specs.Limits.{most_line_bytes}
use Rattle.lsys_syntax.specs.Lines.{without_cr}
use Rattle.lsys_syntax.specs.Calls.{Lent}
use Rattle.lsys_io.specs.Causes.{Rose}
use Rattle.lsys_io.specs.LineAnswers.{last_answer, OnReadFault, OnTooLong}
use Rattle.lsys_io.specs.Reading.{LeavesNoLine, PassesLimit, LineReading, TakesLine, remaining}
use Rattle.lsys_io.specs.declared.lines.LineRead.{LineRead}
use Rattle.lsys_io.specs.declared.lines.LineRefusal.{LineRefusal}
use Rattle.lsys_io.specs.declared.lines.Stage.TheVariants.{Going}

-- a reader at the start of a script
abbrev pub script_start : LineReading
script_start = record { held = []; taken = 0; line = []; stage = Going }

-- 1. lines

-- a line was taken that is not too long, and it is told without its CR
abbrev pub TellsLine : {S : Type 0} → (S → Option (List ℕ)) → Lent LineReading → Lent S → Type 0
TellsLine left reader source =
    (line : List ℕ)
    × TakesLine reader.entry.now reader.exit.now (left source.entry.now) (left source.exit.now) line
    × (length line ≤ most_line_bytes)
    × (reader.exit.now.line ≡ without_cr line)

-- a line was taken that is too long
abbrev pub DropsLine : {S : Type 0} → (S → Option (List ℕ)) → Lent LineReading → Lent S → Type 0
DropsLine left reader source =
    (line : List ℕ)
    × TakesLine reader.entry.now reader.exit.now (left source.entry.now) (left source.exit.now) line
    × (most_line_bytes < length line)

-- 2. refusals

-- A reader that went on refuses the script as too long only where what remains passes the limit.
abbrev pub TooLongPastLimit : {S : Type 0} → (S → Option (List ℕ)) → Lent LineReading → Lent S
    → Result LineRead LineRefusal → Type 0
TooLongPastLimit left reader source result =
    reader.entry.now.stage ≡ Going
    → OnTooLong result
    (IfSome (remaining reader.entry.now (left source.entry.now)) (PassesLimit reader.entry.now.taken))

-- A reader that went on leaves no line at a read fault.
abbrev pub FaultLeavesNoLine : {S : Type 0} → (S → Option (List ℕ)) → Lent LineReading → Lent S
    → Result LineRead LineRefusal → Type 0
FaultLeavesNoLine left reader source result =
    reader.entry.now.stage ≡ Going
    → OnReadFault result
    (LeavesNoLine reader.entry.now (left source.entry.now) (left source.exit.now))

-- A reader that went on answers a read fault only where the source's count of faults rose.
abbrev pub FaultWhereRose : {S : Type 0} → (S → ℕ) → Lent LineReading → Lent S
    → Result LineRead LineRefusal → Type 0
FaultWhereRose faults reader source result =
    reader.entry.now.stage ≡ Going
    → OnReadFault result (Rose (faults source.entry.now) (faults source.exit.now))

-- A reader that gave its last answer gives it again, and reads nothing.
abbrev pub LastAnswerStays : {S : Type 0} → Lent LineReading → Lent S → Result LineRead LineRefusal
    → Type 0
LastAnswerStays reader source result =
    IfSome (last_answer reader.entry.now.stage) (λ answer.
    (result ≡ answer)
    × (reader.exit.now ≡ record reader.entry.now { line = [] })
    × (source.exit.now ≡ source.entry.now))
