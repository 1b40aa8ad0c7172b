use Rattle.std.proofs.Common.{[], map, drop, take}
use Rattle.lsys_spec.specs.Edits.{once}
use Rattle.lsys_module.specs.Views.{module_name}
use Rattle.lsys_rules.proofs.OnceNames.{OnceSoFar}
use Rattle.lsys_rules.proofs.changes.once.Given as goal

abbrev pub invariant-loop-name : goal.invariant-loop-name
invariant-loop-name l = OnceSoFar (map module_name (take l.name-index l.names)) (map module_name l.kept.items) (map module_name (drop l.name-index l.names)) (once [] (map module_name l.names))
