use Rattle.lsys_growth.proofs.Stopping.{RowsTo}
use Rattle.lsys_growth.proofs.matrix.multiply.Given as goal

abbrev pub invariant-loop-i : goal.invariant-loop-i
invariant-loop-i g l = RowsTo l.a l.i l.b l.entries.items
