use Rattle.std.proofs.Common.{◌≤◌, ◌+◌, take, length}
use Rattle.std.specs.Prelude.{vec_len, vec_capacity}
use Rattle.lsys_forest.specs.Groves.{now_of}
use Rattle.lsys_front.specs.Losses.{LosesOnly}
use Rattle.lsys_front.specs.Asks.{Loses}
use Rattle.lsys_front.proofs.lost.lose_answers.Given as goal

abbrev pub invariant-loop-node : goal.invariant-loop-node
invariant-loop-node g l = record {
  loses : Loses l.system l.level (now_of l.fn.forest) (now_of l.forest) (take l.node-index l.nodes) l.fn.bare.items l.bare.items l.fn.dropped.items l.dropped.items;
  only : LosesOnly l.fn.forest l.forest;
  notes : length l.nodes ≤ l.forest.spare_notes + l.node-index;
  places : length l.nodes + vec_len l.bare ≤ vec_capacity l.bare + l.node-index;
  tags : length l.nodes + vec_len l.dropped ≤ vec_capacity l.dropped + l.node-index;
}
