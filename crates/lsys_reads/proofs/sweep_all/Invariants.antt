use Rattle.std.proofs.Common.{take}
use Rattle.lsys_reads.specs.Relations.{LackReader, Thins}
use Rattle.lsys_reads.proofs.sweep_all.Given as goal

abbrev pub invariant-loop-seen : goal.invariant-loop-seen
invariant-loop-seen l = record {
  thins : Thins l.fn.by_seen l.by_seen l.reader l.gone;
  lost : LackReader (take l.seen-index l.tags) l.by_seen l.reader;
}
