use Rattle.std.proofs.Common.{◌≡◌, take, map, false, Ok}
use Rattle.lsys_io.specs.Writes.{WasPut}
use Rattle.lsys_module.specs.Printing.{symbols_after}
use Rattle.lsys_module.proofs.PrintedTexts.{last_runs_on}
use Rattle.lsys_module.proofs.print.put_symbols.Given as goal

-- the symbols so far are put, each after its blank
abbrev pub invariant-loop-symbol : goal.invariant-loop-symbol
invariant-loop-symbol g l = record {
  put : WasPut {A = Unit {0}} g.K.Sink.written g.K.Sink.faults l.initial.sink l.sink l.initial.out l.out (symbols_after g.N.Notation.way.print false (map g.N.Notation.way.symbol (take l.symbol-index l.symbols))) (Ok tt);
  runs_on : l.runs_on ≡ last_runs_on false (map g.N.Notation.way.symbol (take l.symbol-index l.symbols));
}
