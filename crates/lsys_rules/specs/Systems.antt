-- The parts of a system and its seed, as the system of the definitions.
use Rattle.std.specs.Prelude.{ℕ, map}
use Rattle.lsys_spec.specs.Systems as spec
use Rattle.lsys_module.specs.Views.{module_name, string_of}
use Rattle.lsys_reading.specs.Commands.{lattice_of, numbering_of}
use Rattle.lsys_rules.specs.declared.parts.SystemParts.{SystemParts}

-- the system that these parts are with the seed 0
abbrev pub system_of : SystemParts → spec.System
system_of s = record {
  axiom_string = string_of s.«axiom»;
  rules = s.rules;
  schedule = s.schedule.items;
  ignored = map module_name s.ignored.items;
  homomorphisms = s.homs;
  seed = 0;
  depth = s.depth;
  lattice = lattice_of s.lattice;
  version = s.version;
  numbering = numbering_of s.numbering;
  own = s.own;
}

-- the system that they are with a seed
abbrev pub seeded : SystemParts → ℕ → spec.System
seeded s seed = record (system_of s) { seed = seed }
