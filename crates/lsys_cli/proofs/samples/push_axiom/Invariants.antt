use Rattle.std.proofs.Common.{◌≡◌, ◌++◌, codes}
use Rattle.lsys_spec.specs.Samples.{units}
use Rattle.lsys_cli.proofs.samples.push_axiom.Given as goal

abbrev pub invariant-loop-unit : goal.invariant-loop-unit
invariant-loop-unit l = l.script.items ≡ l.fn.script.items ++ (codes "axiom F_b" ++ units l.changed l.unit)
