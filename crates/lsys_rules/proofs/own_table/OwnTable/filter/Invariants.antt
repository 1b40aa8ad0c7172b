use Rattle.std.proofs.Common.{◌≡◌, drop, map}
use Rattle.lsys_spec.specs.Bodies.{filter_in}
use Rattle.lsys_module.specs.Views.{module_name}
use Rattle.lsys_rules.proofs.own_table.OwnTable.filter.Given as goal

-- the table's list is among those that are left
abbrev pub invariant-loop-list : goal.invariant-loop-list
invariant-loop-list l = filter_in l.table (drop l.list-index l.list-items) (map module_name l.ignored) ≡ filter_in l.table l.fn.self (map module_name l.ignored)
