-- The command that tokens spell, by the parts that they are.
use Rattle.std.specs.Prelude.{◌≡◌, Result, List, [], map}
use Rattle.lsys_syntax.specs.Tokens.{Kind}
use Rattle.lsys_syntax.specs.Strings.{Symbol, Signed}
use Rattle.lsys_syntax.specs.Commands as spec
use Rattle.lsys_syntax.specs.LineMachine.{State, InAxiom, Symbols, Whole, Verdict, sentence}
use Rattle.lsys_module.specs.Views.{module_name}
use Rattle.lsys_reading.specs.declared.parts.LatticeName.{LatticeName}
use Rattle.lsys_reading.specs.declared.parts.LatticeName.TheVariants as lattices
use Rattle.lsys_reading.specs.declared.parts.ListKind.{ListKind}
use Rattle.lsys_reading.specs.declared.parts.ListKind.TheVariants as lists
use Rattle.lsys_reading.specs.declared.parts.Lineage.{Lineage as Numbering}
use Rattle.lsys_reading.specs.declared.parts.Lineage.TheVariants as numberings
use Rattle.lsys_reading.specs.declared.parts.CommandParts.{CommandParts}
use Rattle.lsys_reading.specs.declared.parts.CommandParts.TheVariants.{Axiom, Production, Drop, Ignore, Schedule, Seed, Depth, Lattice, Homomorphism, String, Segments, Svg, Show, Quit, Version, Own, Common, Lineage}
use Rattle.lsys_reading.specs.RuleLines.{rule_at, IsRuleLine}
use Rattle.lsys_reading.specs.declared.refusal.PartRefusal.{PartRefusal}
use Rattle.lsys_reading.specs.Lines.{line_at, IsRest}

abbrev pub lattice_of : LatticeName → spec.Lattice
lattice_of lattices.Square = spec.square
lattice_of lattices.Hexagonal = spec.hexagonal
lattice_of lattices.Cubic = spec.cubic

abbrev pub list_kind_of : ListKind → spec.ListKind
list_kind_of lists.Ignore = spec.to_ignore
list_kind_of lists.Consider = spec.to_consider

abbrev pub numbering_of : Numbering → spec.Numbering
numbering_of numberings.Places = spec.by_place
numbering_of numberings.Names = spec.by_name

-- the string of an axiom
abbrev pub string_in : Verdict → List (Symbol Signed)
string_in (sentence (spec.set_axiom xs)) = xs
string_in v = []

-- how an axiom's tokens after the first read
abbrev pub axiom_reading : List Kind → Verdict
axiom_reading ks = line_at ks 1 (InAxiom (Symbols []))

-- the command that has these parts
abbrev pub parts_command : List Kind → CommandParts → spec.Command
parts_command ks Axiom = spec.set_axiom (string_in (axiom_reading ks))
parts_command ks (Production p) = spec.put_production p.table p.label (rule_at ks p.rule)
parts_command ks (Drop l) = spec.drop_rule l
parts_command ks (Ignore xs) = spec.set_ignored (map module_name xs.items)
parts_command ks (Schedule ws) = spec.set_schedule ws.items
parts_command ks (Seed n) = spec.set_seed n
parts_command ks (Depth n) = spec.set_depth n
parts_command ks (Lattice l) = spec.set_lattice (lattice_of l)
parts_command ks (Homomorphism p) = spec.put_homomorphism p.label (rule_at ks p.rule)
parts_command ks (String t) = spec.print_string t
parts_command ks Segments = spec.print_segments
parts_command ks Svg = spec.print_svg
parts_command ks Show = spec.print_system
parts_command ks Quit = spec.quit
parts_command ks (Version n) = spec.set_version n
parts_command ks (Own o) = spec.set_own (list_kind_of o.kind) o.table (map module_name o.names.items)
parts_command ks (Common t) = spec.drop_own t
parts_command ks (Lineage g) = spec.set_numbering (numbering_of g)

-- After the word of a line, where the reading is in this state, stand the parts of a command.
abbrev pub IsCommandRest : List Kind → State → Result CommandParts PartRefusal → Type 0
IsCommandRest ks s result = IsRest ks 1 s (parts_command ks) result

-- After the word of a command that is this word alone the line ends.
abbrev pub IsCommandEnd : List Kind → CommandParts → Result CommandParts PartRefusal → Type 0
IsCommandEnd ks parts result = IsCommandRest ks (Whole (parts_command ks parts)) result

-- An axiom's string is one, and every expression of a rule stands at its span.
abbrev pub AreParts : List Kind → CommandParts → Type 0
AreParts ks Axiom = axiom_reading ks ≡ sentence (spec.set_axiom (string_in (axiom_reading ks)))
AreParts ks (Production p) = IsRuleLine ks p.rule
AreParts ks (Homomorphism p) = IsRuleLine ks p.rule
AreParts ks p = Unit {0}
