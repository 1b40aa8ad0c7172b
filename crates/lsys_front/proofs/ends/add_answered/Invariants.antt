use Rattle.std.proofs.Common.{◌≡◌, ◌++◌, take}
use Rattle.lsys_forest.specs.Groves.{now_of}
use Rattle.lsys_front.specs.Ends.{answered_in}
use Rattle.lsys_front.proofs.ends.add_answered.Given as goal

abbrev pub invariant-loop-node : goal.invariant-loop-node
invariant-loop-node g l = record {
  dropped : l.dropped.items ≡ l.fn.dropped.items ++ answered_in (now_of l.forest) (take l.node-index l.nodes);
}
