use Rattle.lsys_growth.proofs.Stopping.{NeededTo}
use Rattle.lsys_growth.proofs.matrix.needed_places.Given as goal

abbrev pub invariant-loop-i : goal.invariant-loop-i
invariant-loop-i l = NeededTo l.row l.i l.places.items
