use Rattle.std.proofs.Common.{◌-◌, ◌+◌, length}
use Rattle.std.specs.Prelude.{vec_capacity}
use Rattle.lsys_reads.specs.Rows.{SameRows}
use Rattle.lsys_reads.specs.Layout.{rows_of, AreSoundRows}
use Rattle.lsys_reads.proofs.table.ReaderRows.reach.Given as goal

abbrev pub invariant-loop-self : goal.invariant-loop-self
invariant-loop-self l = record {
  rows : SameRows (rows_of l.initial.self-inside.cells.items l.initial.self-inside.heads.items) (rows_of l.self-inside.cells.items l.self-inside.heads.items);
  sound : AreSoundRows l.self-inside.heads.items (length l.self-inside.cells.items) l.self-inside.kept (vec_capacity l.self-inside.cells);
}

abbrev pub decreases-loop-self : goal.decreases-loop-self
decreases-loop-self l = l.last + 1 - length l.self-inside.heads.items
