use Rattle.std.proofs.Common.{◌≡◌, ◌+◌, ◌≤◌, ◌++◌, take, length}
use Rattle.std.specs.Prelude.{◌*◌}
use Rattle.lsys_forest.specs.Groves.{now_of}
use Rattle.lsys_forest.specs.Rows.{kids_below}
use Rattle.lsys_front.specs.Losses.{LosesOnly}
use Rattle.lsys_front.specs.Ends.{AreEnded, answered_in}
use Rattle.lsys_front.proofs.ends.end_level.Given as goal

abbrev pub invariant-loop-node : goal.invariant-loop-node
invariant-loop-node g l = record {
  ended : AreEnded (now_of l.fn.forest) (now_of l.forest) (take l.node-index l.nodes);
  below : l.below.items ≡ l.fn.below.items ++ kids_below (now_of l.fn.forest) (take l.node-index l.nodes);
  dropped : l.dropped.items ≡ l.fn.dropped.items ++ answered_in (now_of l.fn.forest) (take l.node-index l.nodes);
  loses : LosesOnly l.fn.forest l.forest;
  notes : 2 * length l.nodes ≤ l.forest.spare_notes + 2 * l.node-index;
}
