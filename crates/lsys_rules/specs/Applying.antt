-- What is answered where a command is applied.
use Rattle.std.specs.Prelude.{◌≡◌, ℕ, Option, Some, None, Result, Ok, Err}
use Rattle.lsys_spec.specs.Systems as spec
use Rattle.lsys_spec.specs.Edits as edits
use Rattle.lsys_reading.specs.Parted.{command_of}
use Rattle.lsys_reading.specs.Parsing.{column_of}
use Rattle.lsys_rules.specs.Lines.{CommandLine}
use Rattle.lsys_rules.specs.declared.refusal.Refusal.{Refusal}
use Rattle.lsys_rules.specs.declared.refusal.Refusal.TheVariants.{Version, Name, Duplicate, Mixed, Label, Table, Level, TooMany, Memory}

-- it is refused so, at the token with this column
abbrev pub IsToldAt : CommandLine → edits.Why → ℕ → Option edits.Refusal → Type 0
IsToldAt line why column told = (place : ℕ) × (told ≡ Some (record { why = why; place = place })) × (column ≡ column_of line.bytes line.tokens place)

-- the refusal that the definitions tell; for lack of memory only where they tell none
abbrev pub IsEditRefusal : CommandLine → Option edits.Refusal → Refusal → Type 0
IsEditRefusal line told (Version column) = IsToldAt line edits.wrong_version column told
IsEditRefusal line told (Name column) = IsToldAt line edits.unknown_name column told
IsEditRefusal line told (Duplicate column) = IsToldAt line edits.duplicate column told
IsEditRefusal line told (Mixed column) = IsToldAt line edits.mixed column told
IsEditRefusal line told (Label column) = IsToldAt line edits.wrong_label column told
IsEditRefusal line told (Table column) = IsToldAt line edits.wrong_table column told
IsEditRefusal line told (Level column) = IsToldAt line edits.wrong_level column told
IsEditRefusal line told (TooMany column) = IsToldAt line edits.many column told
IsEditRefusal line told Memory = told ≡ None
IsEditRefusal line told e = ⊥

-- the changed system where nothing refuses the command, or the first refusal
abbrev pub IsApplied : spec.System → CommandLine → Result spec.System Refusal → Type 0
IsApplied s line (Ok next) = (edits.refusal s (command_of line.tokens) ≡ None) × (next ≡ edits.changed s (command_of line.tokens))
IsApplied s line (Err e) = IsEditRefusal line (edits.refusal s (command_of line.tokens)) e

-- nothing refuses the command, or the first refusal
abbrev pub IsChecked : spec.System → CommandLine → Result (Unit {0}) Refusal → Type 0
IsChecked s line (Ok u) = edits.refusal s (command_of line.tokens) ≡ None
IsChecked s line (Err e) = IsEditRefusal line (edits.refusal s (command_of line.tokens)) e
