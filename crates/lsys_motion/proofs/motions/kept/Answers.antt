use Rattle.lsys_lattice.specs.Bounds.{bounds_of}
use Rattle.lsys_lattice.specs.Wide.{extents_of}
use Rattle.lsys_forest.specs.Rows.{complete_levels}
use Rattle.lsys_out.specs.Drawings.{last_drawing, last_image}
use Rattle.lsys_motion.specs.Told.{poses_of}
use Rattle.lsys_motion.proofs.Starting.{by_parts, near_by_parts, told_near, told_poses}
use Rattle.lsys_motion.proofs.motions.kept.Goals as goal

pub invariant_of-result : goal.invariant_of-result
invariant_of-result g c =
    let l = g.T.Lattice.shape in
    let k = c.in_ok-keeper.keeper in
    let parts = c.into_parts-pieces.ensures in
    near_by_parts l c.into_parts-pieces.result.0.items k.pieces c.into_parts-pieces.result.1 k.symbols c.into_parts-pieces.result.2 k.here parts.pieces parts.symbols parts.here
    (told_near l c.args.system.now (complete_levels c.args.forest.now) c.requires.drawn k c.in_ok-keeper.ensures.taken c.in_ok-keeper.ensures.none)

pub returns : goal.returns
returns g c =
    let l = g.T.Lattice.shape in
    let s = c.args.system.now in
    let levels = complete_levels c.args.forest.now in
    let k = c.in_ok-keeper.keeper in
    let parts = c.into_parts-pieces.ensures in
    by_parts l c.into_parts-pieces.result.0.items k.pieces c.into_parts-pieces.result.1 k.symbols c.into_parts-pieces.result.2 k.here (extents_of c.args.bounds) (bounds_of l (last_drawing l s levels).segments)
    (poses_of l (last_image s levels).symbols) parts.pieces parts.symbols parts.here c.requires.bounds
    (told_poses l s levels c.requires.drawn k c.in_ok-keeper.ensures.taken c.in_ok-keeper.ensures.none)
