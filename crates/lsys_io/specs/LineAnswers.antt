-- What is claimed at which answer of a reader of lines.
use Rattle.std.specs.Prelude.{Result, Ok, Err, Some, None}
use Rattle.std.specs.declared.option.Option.{Option}
use Rattle.lsys_io.specs.declared.lines.Stage.{Stage}
use Rattle.lsys_io.specs.declared.lines.Stage.TheVariants.{Going, Ended, Refused}
use Rattle.lsys_io.specs.declared.lines.LineRead.{LineRead}
use Rattle.lsys_io.specs.declared.lines.LineRead.TheVariants.{Line, Long, End}
use Rattle.lsys_io.specs.declared.lines.LineRefusal.{LineRefusal}
use Rattle.lsys_io.specs.declared.lines.LineRefusal.TheVariants.{ReadFault, TooLong}

-- the answer that a reader gives from now on
abbrev pub last_answer : Stage → Option (Result LineRead LineRefusal)
last_answer Going = None
last_answer Ended = Some (Ok End)
last_answer (Refused refusal) = Some (Err refusal)

-- at a line that is told
abbrev pub OnLine : Result LineRead LineRefusal → Type 0 → Type 0
OnLine (Ok Line) P = P
OnLine (Ok Long) P = Unit {0}
OnLine (Ok End) P = Unit {0}
OnLine (Err refusal) P = Unit {0}

-- at a line that is too long
abbrev pub OnLong : Result LineRead LineRefusal → Type 0 → Type 0
OnLong (Ok Line) P = Unit {0}
OnLong (Ok Long) P = P
OnLong (Ok End) P = Unit {0}
OnLong (Err refusal) P = Unit {0}

-- at a line, told or too long
abbrev pub OnTaken : Result LineRead LineRefusal → Type 0 → Type 0
OnTaken (Ok Line) P = P
OnTaken (Ok Long) P = P
OnTaken (Ok End) P = Unit {0}
OnTaken (Err refusal) P = Unit {0}

-- at the end of the script
abbrev pub OnEnd : Result LineRead LineRefusal → Type 0 → Type 0
OnEnd (Ok Line) P = Unit {0}
OnEnd (Ok Long) P = Unit {0}
OnEnd (Ok End) P = P
OnEnd (Err refusal) P = Unit {0}

-- at a read fault
abbrev pub OnReadFault : Result LineRead LineRefusal → Type 0 → Type 0
OnReadFault (Ok read) P = Unit {0}
OnReadFault (Err ReadFault) P = P
OnReadFault (Err TooLong) P = Unit {0}

-- at a script that is too long
abbrev pub OnTooLong : Result LineRead LineRefusal → Type 0 → Type 0
OnTooLong (Ok read) P = Unit {0}
OnTooLong (Err ReadFault) P = Unit {0}
OnTooLong (Err TooLong) P = P

-- at every answer but a read fault
abbrev pub OnNoFault : Result LineRead LineRefusal → Type 0 → Type 0
OnNoFault (Ok read) P = P
OnNoFault (Err ReadFault) P = Unit {0}
OnNoFault (Err TooLong) P = P

-- at every answer but a line that is told
abbrev pub OnNoLine : Result LineRead LineRefusal → Type 0 → Type 0
OnNoLine (Ok Line) P = Unit {0}
OnNoLine (Ok Long) P = P
OnNoLine (Ok End) P = P
OnNoLine (Err refusal) P = P

-- at the end and at a refusal
abbrev pub OnLast : Result LineRead LineRefusal → Type 0 → Type 0
OnLast (Ok Line) P = Unit {0}
OnLast (Ok Long) P = Unit {0}
OnLast (Ok End) P = P
OnLast (Err refusal) P = P

-- at every answer but the end
abbrev pub OnNoEnd : Result LineRead LineRefusal → Type 0 → Type 0
OnNoEnd (Ok Line) P = P
OnNoEnd (Ok Long) P = P
OnNoEnd (Ok End) P = Unit {0}
OnNoEnd (Err refusal) P = P
