use Rattle.std.proofs.Common.{◌≡◌, take, map}
use Rattle.lsys_forest.specs.Groves.{now_of}
use Rattle.lsys_children.specs.Matches.{node_numbered}
use Rattle.lsys_children.specs.Children.{numbers_of}
use Rattle.lsys_children.proofs.few.find_each.Given as goal

abbrev pub invariant-loop-child : goal.invariant-loop-child
invariant-loop-child g l = l.found.items ≡ map (node_numbered (now_of l.forest) l.kids) (take l.child-index (numbers_of l.wanted))
