use Rattle.std.proofs.Common.{◌≡◌, map, drop}
use Rattle.lsys_bodies.specs.Views.{as_production}
use Rattle.lsys_front.specs.Others.{all_alike_for}
use Rattle.lsys_front.proofs.others.all_alike_for.Given as goal

abbrev pub invariant-loop-rule : goal.invariant-loop-rule
invariant-loop-rule l = record {
  rules : l.rules ≡ l.fn.rules;
  rest : all_alike_for l.fn.rules l.table (map as_production l.these) ≡ all_alike_for l.fn.rules l.table (map as_production (drop l.rule-index l.these));
}
