use Rattle.std.proofs.Common.{◌≡◌, take}
use Rattle.std.specs.HashMap.{get}
use Rattle.lsys_forest.specs.Groves.{now_of}
use Rattle.lsys_children.specs.declared.number.Number.{Number}
use Rattle.lsys_children.specs.Matches.{same_child_number, node_numbered}
use Rattle.lsys_children.proofs.brood.enter_all.Given as goal

abbrev pub invariant-loop-kid : goal.invariant-loop-kid
invariant-loop-kid g l = (q : Number) → get same_child_number l.nodes q ≡ node_numbered (now_of l.forest) (take l.kid-index l.kids) q
