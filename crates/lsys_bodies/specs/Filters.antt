-- What contexts pass over, as the filters of the definitions.
use Rattle.std.specs.Prelude.{map}
use Rattle.lsys_spec.specs.Bodies as spec
use Rattle.lsys_module.specs.Views.{module_name}
use Rattle.lsys_reading.specs.Commands.{list_kind_of}
use Rattle.lsys_bodies.specs.declared.filter.Filter.{Filter}

abbrev pub filter_of : Filter → spec.Filter
filter_of f = record { kind = list_kind_of f.kind; names = map module_name f.names.now }
