use Rattle.std.proofs.Common.{◌≡◌, map, take}
use Rattle.lsys_children.specs.Parents.{uncut}
use Rattle.lsys_pass.proofs.parents.whole_parents.Given as goal

abbrev pub invariant-loop-node : goal.invariant-loop-node
invariant-loop-node l = l.parents.items ≡ map uncut (take l.node-index l.nodes)
