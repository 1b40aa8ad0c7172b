use Rattle.std.proofs.Common.{◌≡◌}
use Rattle.lsys_spec.specs.Lattices.{times, turned}
use Rattle.lsys_lattice.specs.Views.{turn_of}
use Rattle.lsys_lattice.proofs.turn_by.Given as goal

abbrev pub invariant-loop-done : goal.invariant-loop-done
invariant-loop-done g l =
    g.T.Lattice.frame_of l.turned ≡ times l._done (turned g.T.Lattice.shape (turn_of l.kind)) (g.T.Lattice.frame_of l.fn.frame)
