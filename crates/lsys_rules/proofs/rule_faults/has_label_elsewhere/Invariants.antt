use Rattle.std.proofs.Common.{◌≡◌, drop, map}
use Rattle.lsys_syntax.specs.Rules.{Production}
use Rattle.lsys_spec.specs.Systems.{any}
use Rattle.lsys_bodies.specs.Views.{as_production}
use Rattle.lsys_rules.specs.Faults.{IsNewcomer, elsewhere}
use Rattle.lsys_rules.proofs.rule_faults.has_label_elsewhere.Given as goal

-- no rule so far passes
abbrev pub invariant-loop-rule : goal.invariant-loop-rule
invariant-loop-rule l = record {
  rest : (p : Production) → IsNewcomer p l.newcomer → any (elsewhere p) (map as_production (drop l.rule-index l.rules)) ≡ any (elsewhere p) (map as_production l.rules);
}
