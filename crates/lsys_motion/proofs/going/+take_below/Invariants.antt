use Rattle.lsys_motion.specs.Going.{GoesOn, IsGoing}
use Rattle.lsys_motion.proofs.going.+take_below.Given as goal

abbrev pub decreases-take_below : goal.decreases-take_below
decreases-take_below g l = l.levels

abbrev pub invariant-kids : goal.invariant-kids
invariant-kids g l = record {
  going : IsGoing g.T.Lattice.shape l.walk.coming l.keeper;
  goes : GoesOn g.T.Lattice.shape l.fn.walk.coming l.fn.keeper l.walk.coming l.keeper;
}
