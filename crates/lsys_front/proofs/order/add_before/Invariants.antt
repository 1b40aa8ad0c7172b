use Rattle.std.proofs.Common.{◌-◌, length}
use Rattle.lsys_forest.specs.Rows.{place_of_node}
use Rattle.lsys_front.specs.Merges.{AreMerged}
use Rattle.lsys_front.proofs.order.add_before.Given as goal

abbrev pub invariant-loop-j : goal.invariant-loop-j
invariant-loop-j g l = record {
  merged : AreMerged (place_of_node l.forest) l.left l.right l.i l.j l.merged.items;
}

abbrev pub decreases-loop-j : goal.decreases-loop-j
decreases-loop-j g l = length l.right - l.j
