use Rattle.std.proofs.Common.{◌≡◌}
use Rattle.lsys_spec.specs.Rows.{first_in}
use Rattle.lsys_forest.specs.Stocks.{nodes_of}
use Rattle.lsys_forest.specs.Rows.{level_nodes}
use Rattle.lsys_forest.proofs.walk.first_at.Given as goal

abbrev pub invariant-loop-depth : goal.invariant-loop-depth
invariant-loop-depth g l = l.at ≡ first_in (level_nodes (nodes_of l.parts) l.root l.depth)
