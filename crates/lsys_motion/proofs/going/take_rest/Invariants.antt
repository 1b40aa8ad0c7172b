use Rattle.lsys_motion.specs.Going.{GoesOn}
use Rattle.lsys_motion.proofs.going.take_rest.Given as goal

abbrev pub invariant-parts : goal.invariant-parts
invariant-parts g l = GoesOn g.T.Lattice.shape l.initial.walk.coming l.initial.keeper l.walk.coming l.keeper

abbrev pub decreases-parts : goal.decreases-parts
decreases-parts g l = l.walk.left
