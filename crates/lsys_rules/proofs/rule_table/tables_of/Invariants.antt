use Rattle.std.proofs.Common.{◌≡◌, map, drop}
use Rattle.lsys_spec.specs.Systems.{tables, tables_onto}
use Rattle.lsys_bodies.specs.Views.{as_production}
use Rattle.lsys_rules.proofs.rule_table.tables_of.Given as goal

abbrev pub invariant-loop-rule : goal.invariant-loop-rule
invariant-loop-rule l = tables_onto l.tables.items (map as_production (drop l.rule-index l.rules)) ≡ tables (map as_production l.rules)
