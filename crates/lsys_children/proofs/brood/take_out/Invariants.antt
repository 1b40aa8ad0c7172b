use Rattle.lsys_children.proofs.brood.take_out.Given as goal

abbrev pub invariant-loop-node : goal.invariant-loop-node
invariant-loop-node g l = Unit {0}
