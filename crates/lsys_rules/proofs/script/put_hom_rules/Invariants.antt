use Rattle.std.proofs.Common.{take, map, Ok, List}
use Rattle.lsys_io.specs.Writes.{WasPut}
use Rattle.lsys_spec.specs.Shown.{as_put_homomorphism, script_of}
use Rattle.lsys_bodies.specs.declared.rule.HomRule.{HomRule}
use Rattle.lsys_bodies.specs.Views.{homomorphism_of}
use Rattle.lsys_rules.proofs.script.put_hom_rules.Given as goal

-- those so far are put
abbrev pub invariant-loop-rule : goal.invariant-loop-rule
invariant-loop-rule g l = record {
  put : WasPut {A = Unit {0}} g.K.Sink.written g.K.Sink.faults l.initial.sink l.sink l.initial.out l.out ((λ (xs : List HomRule). script_of (map as_put_homomorphism (map homomorphism_of xs))) (take l.rule-index l.rules)) (Ok tt);
}
