use Rattle.std.proofs.Common.{take, map, Ok, List}
use Rattle.lsys_io.specs.Writes.{WasPut}
use Rattle.lsys_spec.specs.Shown.{as_set_own, script_of}
use Rattle.lsys_spec.specs.Systems.{Own}
use Rattle.lsys_rules.proofs.script.put_own_lists.Given as goal

-- those so far are put
abbrev pub invariant-loop-list : goal.invariant-loop-list
invariant-loop-list g l = record {
  put : WasPut {A = Unit {0}} g.K.Sink.written g.K.Sink.faults l.initial.sink l.sink l.initial.out l.out ((λ (os : List Own). script_of (map as_set_own os)) (take l.list-index l.lists)) (Ok tt);
}
