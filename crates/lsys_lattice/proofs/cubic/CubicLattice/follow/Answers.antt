use Rattle.std.proofs.Common.{◌≡◌, ◌∙◌, sym, subst}
use Rattle.lsys_spec.specs.Lattices.{cubic, Vector, Frame, IsUpright}
use Rattle.lsys_spec.proofs.Frames.{upright_among}
use Rattle.lsys_spec.proofs.Turns.{same_frame}
use Rattle.lsys_lattice.specs.Rotations.{frame_within}
use Rattle.lsys_lattice.proofs.Turning.{followed-known}
use Rattle.lsys_lattice.specs.CubicFrames.{cubic_frame}
use Rattle.lsys_lattice.specs.CubicTable.{upright_known}
use Rattle.lsys_lattice.proofs.cubic.CubicLattice.follow.Goals as goal

pub invariant_of-result : goal.invariant_of-result
invariant_of-result c =
    let f = c.args.frame in
    let g = c.args.inner in
    let whole : IsUpright (frame_within cubic (cubic_frame f) (cubic_frame g)) =
    upright_among cubic (frame_within cubic (cubic_frame f) (cubic_frame g))
    (followed-known cubic (cubic_frame f) (cubic_frame g) (upright_known f.heading f.left f.up f.upright) (upright_known g.heading g.left g.up g.upright)) in
    record { upright = subst IsUpright (sym (same_frame _ _ _ _ _ _ c.direction.ensures c.direction-2.ensures c.direction-3.ensures)) whole }
