-- The states that the words of commands, of lattices and of numberings lead to.
use Rattle.std.specs.Prelude.{ℕ, Option, Some, None, List, [], ◌∷◌, bytes_eq, if◌then◌else◌}
use Rattle.std.specs.Borrow.{Bor}
use Rattle.lsys_syntax.specs.Commands.{to_ignore, to_consider, set_lattice, set_numbering, print_segments, print_svg, print_system, quit}
use Rattle.lsys_syntax.specs.LineMachine.{Symbols, State, InAxiom, ProductionDue, DropDue, InNames, of_ignored, ScheduleDue, SeedDue, DepthDue, LatticeDue, LabelDue, StringRead, VersionDue, TableDue, CommonDue, NumberingDue, Whole, Stop}
use Rattle.lsys_reading.specs.declared.word.CommandWord.{CommandWord}
use Rattle.lsys_reading.specs.declared.word.CommandWord.TheVariants as words
use Rattle.lsys_reading.specs.declared.parts.LatticeName.{LatticeName}
use Rattle.lsys_reading.specs.declared.parts.Lineage.{Lineage as Numbering}
use Rattle.lsys_reading.specs.Commands.{lattice_of, numbering_of}

abbrev pub word_state : CommandWord → State
word_state words.Axiom = InAxiom (Symbols [])
word_state words.Production = ProductionDue
word_state words.Drop = DropDue
word_state words.Ignore = InNames of_ignored []
word_state words.Schedule = ScheduleDue
word_state words.Seed = SeedDue
word_state words.Depth = DepthDue
word_state words.Lattice = LatticeDue
word_state words.Homomorphism = LabelDue
word_state words.String = StringRead
word_state words.Segments = Whole print_segments
word_state words.Svg = Whole print_svg
word_state words.Show = Whole print_system
word_state words.Quit = Whole quit
word_state words.Version = VersionDue
word_state words.Ignoring = TableDue to_ignore
word_state words.Consider = TableDue to_consider
word_state words.Common = CommonDue
word_state words.Lineage = NumberingDue

-- no command begins with any other word
abbrev pub word_state_in : Option CommandWord → State
word_state_in (Some w) = word_state w
word_state_in None = Stop

abbrev pub lattice_state_in : Option LatticeName → State
lattice_state_in (Some l) = Whole (set_lattice (lattice_of l))
lattice_state_in None = Stop

abbrev pub numbering_state_in : Option Numbering → State
numbering_state_in (Some g) = Whole (set_numbering (numbering_of g))
numbering_state_in None = Stop

-- what a text means by a table of words, where it is one of them
abbrev pub meaning_in : {A : Type 0} → List (Bor (List ℕ) × A) → List ℕ → Option A
meaning_in [] w = None
meaning_in (e ∷ es) w = if bytes_eq w e.0.now then Some e.1 else meaning_in es w
