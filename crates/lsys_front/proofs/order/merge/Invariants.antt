use Rattle.std.proofs.Common.{◌-◌, length}
use Rattle.lsys_forest.specs.Rows.{place_of_node}
use Rattle.lsys_front.specs.Merges.{AreMerged}
use Rattle.lsys_front.proofs.order.merge.Given as goal

abbrev pub invariant-loop-i : goal.invariant-loop-i
invariant-loop-i g l = record {
  merged : AreMerged (place_of_node l.forest) l.left l.right l.i l.j l.merged.items;
}

abbrev pub decreases-loop-i : goal.decreases-loop-i
decreases-loop-i g l = length l.left - l.i
