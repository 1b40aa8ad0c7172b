use Rattle.std.proofs.Common.{◌≡◌}
use Rattle.lsys_spec.specs.Lattices.{times, turned, turn_left}
use Rattle.lsys_tests_parts.proofs.lattices.turn_fully.Given as goal

abbrev pub invariant-loop-done : goal.invariant-loop-done
invariant-loop-done g l =
    g.T.Lattice.frame_of l.turned ≡ times l._done (turned g.T.Lattice.shape turn_left) (g.T.Lattice.frame_of l.fn.frame)
