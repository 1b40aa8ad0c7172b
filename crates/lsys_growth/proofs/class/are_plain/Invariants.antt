use Rattle.std.proofs.Common.{◌≡◌, drop, map}
use Rattle.lsys_bodies.specs.Views.{as_production}
use Rattle.lsys_growth.specs.Growth.{all_plain}
use Rattle.lsys_growth.proofs.class.are_plain.Given as goal

abbrev pub invariant-loop-rule : goal.invariant-loop-rule
invariant-loop-rule l = all_plain (map as_production (drop l.rule-index l.rules)) ≡ all_plain (map as_production l.rules)
