use Rattle.std.proofs.Common.{◌-◌}
use Rattle.lsys_forest.specs.Stocks.{nodes_of}
use Rattle.lsys_forest.specs.Rows.{oriented, level_nodes}
use Rattle.lsys_forest.proofs.WalkLemmas.{IsAlong, Below, left_from}
use Rattle.lsys_forest.proofs.walk.first_child.Given as goal

abbrev pub invariant-loop-at : goal.invariant-loop-at
invariant-loop-at g l = IsAlong (Below l.way (nodes_of l.parts) l.root (l.depth - 1) l.fn.start) l.way (nodes_of l.parts) l.root (l.depth - 1) l.at

abbrev pub decreases-loop-at : goal.decreases-loop-at
decreases-loop-at g l = left_from (oriented l.way (level_nodes (nodes_of l.parts) l.root (l.depth - 1))) l.at
