use Rattle.std.proofs.Common.{map}
use Rattle.lsys_module.specs.Views.{module_name}
use Rattle.lsys_growth.proofs.Counts.{RowsOf}
use Rattle.lsys_growth.proofs.tables.step.Given as goal

abbrev pub invariant-loop-row : goal.invariant-loop-row
invariant-loop-row l = RowsOf l.system l.level (map module_name l.letters) l.row l.entries.items
