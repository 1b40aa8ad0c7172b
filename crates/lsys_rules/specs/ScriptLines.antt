-- The lines of a shown system, by what the code holds of it.
use Rattle.std.specs.Prelude.{ℕ, List, map}
use Rattle.lsys_syntax.specs.Commands.{set_axiom, set_ignored}
use Rattle.lsys_spec.specs.Shown.{as_put, as_put_homomorphism, numbering_commands, script_of}
use Rattle.lsys_spec.specs.Systems.{written}
use Rattle.lsys_module.specs.Views.{module_name, string_of}
use Rattle.lsys_module.specs.declared.symbol.Symbol.{Symbol}
use Rattle.lsys_reading.specs.Commands.{numbering_of}
use Rattle.lsys_reading.specs.declared.parts.Lineage.{Lineage as Numbering}
use Rattle.lsys_bodies.specs.declared.rule.HomRule.{HomRule}
use Rattle.lsys_bodies.specs.declared.rule.Rule.{Rule}
use Rattle.lsys_bodies.specs.Views.{homomorphism_of, as_production}
use Rattle.lsys_rules.specs.Showing.{script_line}

-- the line of a numbering, where it isn't by places
abbrev pub numbering_lines : Numbering → List ℕ
numbering_lines n = script_of (numbering_commands (numbering_of n))

abbrev pub axiom_line : List Symbol → List ℕ
axiom_line xs = script_line (set_axiom (written (string_of xs)))

-- the line of the ignored names
abbrev pub ignored_line : List (List ℕ) → List ℕ
ignored_line names = script_line (set_ignored (map module_name names))

-- a line for each production
abbrev pub production_lines : List Rule → List ℕ
production_lines rs = script_of (map as_put (map as_production rs))

-- a line for each rule of the homomorphism
abbrev pub homomorphism_lines : List HomRule → List ℕ
homomorphism_lines rs = script_of (map as_put_homomorphism (map homomorphism_of rs))
