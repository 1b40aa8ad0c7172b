use Rattle.std.proofs.Common.{take, map, Ok, List}
use Rattle.lsys_io.specs.Writes.{WasPut}
use Rattle.lsys_spec.specs.Shown.{as_put, script_of}
use Rattle.lsys_bodies.specs.declared.rule.Rule.{Rule}
use Rattle.lsys_bodies.specs.Views.{as_production}
use Rattle.lsys_rules.proofs.script.put_rules.Given as goal

-- those so far are put
abbrev pub invariant-loop-rule : goal.invariant-loop-rule
invariant-loop-rule g l = record {
  put : WasPut {A = Unit {0}} g.K.Sink.written g.K.Sink.faults l.initial.sink l.sink l.initial.out l.out ((λ (xs : List Rule). script_of (map as_put (map as_production xs))) (take l.rule-index l.rules)) (Ok tt);
}
