use Rattle.std.proofs.Common.{◌-◌, ◌<◌, length}
use Rattle.lsys_forest.specs.Rows.{place_of_node}
use Rattle.lsys_front.proofs.Merging.{AreStepped}
use Rattle.lsys_front.proofs.order.is_in_order.Given as goal

abbrev pub invariant-loop-next : goal.invariant-loop-next
invariant-loop-next g l = record {
  some : 0 < l.next;
  stepped : AreStepped (place_of_node l.forest) l.nodes l.next;
}

abbrev pub decreases-loop-next : goal.decreases-loop-next
decreases-loop-next g l = length l.nodes - l.next
