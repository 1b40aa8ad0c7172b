use Rattle.std.proofs.Common.{◌-◌}
use Rattle.lsys_forest.specs.Stocks.{nodes_of}
use Rattle.lsys_forest.specs.Rows.{oriented, level_nodes}
use Rattle.lsys_forest.proofs.WalkLemmas.{IsAlong, After, left_from}
use Rattle.lsys_forest.proofs.walk.+beside.Given as goal

abbrev pub invariant-loop-at : goal.invariant-loop-at
invariant-loop-at g l = IsAlong (After l.way (nodes_of l.parts) l.root (l.depth - 1 - 1) l.fn.node) l.way (nodes_of l.parts) l.root (l.depth - 1 - 1) l.at

abbrev pub decreases-loop-at : goal.decreases-loop-at
decreases-loop-at g l = left_from (oriented l.way (level_nodes (nodes_of l.parts) l.root (l.depth - 1 - 1))) l.at

abbrev pub decreases-beside : goal.decreases-beside
decreases-beside g l = l.depth
