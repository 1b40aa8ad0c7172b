use Rattle.lsys_forest.specs.Groves.{now_of}
use Rattle.lsys_children.proofs.Walking.{IsWalked}
use Rattle.lsys_children.proofs.walk.walk_parents.Given as goal

abbrev pub invariant-loop-node : goal.invariant-loop-node
invariant-loop-node g l = IsWalked (now_of l.forest) l.nodes l.node-index l.fn.parents.items l.parents.items l.cutting l.any_opens
