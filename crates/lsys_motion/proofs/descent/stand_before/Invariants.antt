use Rattle.std.proofs.Common.{◌≡◌, length}
use Rattle.lsys_lattice.specs.Effects.{first_walker}
use Rattle.lsys_motion.specs.Pieces.{IsNear, IsNearTo, found}
use Rattle.lsys_motion.proofs.descent.stand_before.Given as goal

-- from here what is left leads to the same stand, and all on the way is within reach
abbrev pub invariant-down : goal.invariant-down
invariant-down g l = record {
  found : found g.T.Lattice.shape 0 l.rest l.left l.here ≡ found g.T.Lattice.shape 0 l.fn.pieces l.symbol (first_walker g.T.Lattice.shape).here;
  near : IsNear l.here;
  near_to : IsNearTo g.T.Lattice.shape 0 l.rest l.left l.here;
}

abbrev pub decreases-down : goal.decreases-down
decreases-down g l = length l.rest
