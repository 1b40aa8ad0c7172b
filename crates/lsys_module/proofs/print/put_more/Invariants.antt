use Rattle.std.proofs.Common.{take, map, Ok}
use Rattle.lsys_io.specs.Writes.{WasPut}
use Rattle.lsys_module.specs.Printing.{more_text}
use Rattle.lsys_module.proofs.print.put_more.Given as goal

-- the parameters so far are put
abbrev pub invariant-loop-param : goal.invariant-loop-param
invariant-loop-param g l = record {
  put : WasPut {A = Unit {0}} g.K.Sink.written g.K.Sink.faults l.initial.sink l.sink l.initial.out l.out (more_text g.N.Notation.way.print (map g.N.Notation.way.param (take l.param-index l.params))) (Ok tt);
}
