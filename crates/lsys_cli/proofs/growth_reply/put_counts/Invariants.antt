use Rattle.std.proofs.Common.{take, map, Ok}
use Rattle.std.specs.Prelude.{flat_map}
use Rattle.lsys_io.specs.Writes.{WasPut}
use Rattle.lsys_growth.specs.Growth.{letter_line}
use Rattle.lsys_growth.specs.Views.{count_of}
use Rattle.lsys_cli.proofs.growth_reply.put_counts.Given as goal

-- those so far are put
abbrev pub invariant-loop-count : goal.invariant-loop-count
invariant-loop-count g l = record {
  put : WasPut {A = Unit {0}} g.K.Sink.written g.K.Sink.faults l.initial.sink l.sink l.initial.out l.out (flat_map letter_line (map count_of (take l.count-index l.counts))) (Ok tt);
}
