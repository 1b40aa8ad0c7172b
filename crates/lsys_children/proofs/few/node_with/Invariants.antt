use Rattle.std.proofs.Common.{◌≡◌, take}
use Rattle.lsys_forest.specs.Groves.{now_of}
use Rattle.lsys_children.specs.Matches.{node_numbered}
use Rattle.lsys_children.proofs.few.node_with.Given as goal

abbrev pub invariant-loop-kid : goal.invariant-loop-kid
invariant-loop-kid g l = l.found ≡ node_numbered (now_of l.forest) (take l.kid-index l.kids) l.wanted
