use Rattle.std.proofs.Common.{map, take}
use Rattle.lsys_module.specs.Views.{module_name}
use Rattle.lsys_front.specs.Listed.{ListsNames}
use Rattle.lsys_front.proofs.filters.listed_names.Given as goal

abbrev pub invariant-loop-name : goal.invariant-loop-name
invariant-loop-name l = ListsNames l.listed (map module_name (take l.name-index l.names))
