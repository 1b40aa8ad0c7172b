-- Brackets and modules alike, and which of the children of a level stay where cuts reach from one symbol's to the next's.
use Rattle.std.specs.Prelude.{ℕ, zero, suc, Bool, true, false, Option, Some, None, if◌then◌else◌}
use Rattle.lsys_spec.specs.Levels.{LevelSymbol, Push, Pop, Module}

-- whether a symbol begins a branch, ends one, or is a module
pub data BracketKind : Type 0 where
  Opens : BracketKind
  Closes : BracketKind
  Neither : BracketKind

abbrev pub kind_of_symbol : LevelSymbol → BracketKind
kind_of_symbol (Push l) = Opens
kind_of_symbol (Pop l) = Closes
kind_of_symbol (Module l m) = Neither

-- Where a branch is being cut off, a number says how many branches are open in what is cut off: a symbol's children stay
-- where none is, and those of the bracket that ends it.
abbrev pub stays : Option ℕ → BracketKind → Bool
stays None k = true
stays (Some n) Neither = false
stays (Some n) Opens = false
stays (Some zero) Closes = true
stays (Some (suc n)) Closes = false

-- what reaches the next symbol, where a cut among this one's own children reaches it or none does
abbrev pub reached : Option ℕ → BracketKind → Bool → Option ℕ
reached None Neither cuts = if cuts then Some 0 else None
reached None Opens cuts = None
reached None Closes cuts = None
reached (Some n) Neither cuts = Some n
reached (Some n) Opens cuts = Some (suc n)
reached (Some zero) Closes cuts = None
reached (Some (suc n)) Closes cuts = Some n
