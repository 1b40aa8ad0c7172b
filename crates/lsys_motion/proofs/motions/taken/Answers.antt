use Rattle.lsys_forest.specs.Rows.{complete_levels}
use Rattle.lsys_out.specs.Drawings.{last_image}
use Rattle.lsys_motion.proofs.Keeping.{busy_taken}
use Rattle.lsys_motion.proofs.Passing.{goes_then, going_then}
use Rattle.lsys_motion.proofs.Starting.{start_going, walk_begun, whole_taken}
use Rattle.lsys_motion.proofs.motions.taken.Goals as goal

pub take_below-requires-clause-going : goal.take_below-requires-clause-going
take_below-requires-clause-going g c =
    let l = g.T.Lattice.shape in
    let s = c.args.system.now in
    let levels = complete_levels c.args.forest.now in
    let begun = walk_begun s levels c.new-walk.result.coming _ c.depth.result c.new-walk.ensures c.hom_rules.ensures.rules c.depth.ensures.depth in
    start_going l s levels c.requires.drawn c.new-walk.result.coming c.new-keeper.result begun c.new-keeper.ensures

pub take_rest-requires : goal.take_rest-requires
take_rest-requires g c =
    let l = g.T.Lattice.shape in
    let s = c.args.system.now in
    let levels = complete_levels c.args.forest.now in
    let begun = walk_begun s levels c.new-walk.result.coming _ c.depth.result c.new-walk.ensures c.hom_rules.ensures.rules c.depth.ensures.depth in
    going_then l c.new-walk.result.coming c.take_below.new.walk.coming c.new-keeper.result c.take_below.new.keeper (start_going l s levels c.requires.drawn c.new-walk.result.coming c.new-keeper.result begun c.new-keeper.ensures) c.in_ok-take_below.ensures

pub finish-requires : goal.finish-requires
finish-requires g c =
    let l = g.T.Lattice.shape in
    let s = c.args.system.now in
    let levels = complete_levels c.args.forest.now in
    let begun = walk_begun s levels c.new-walk.result.coming _ c.depth.result c.new-walk.ensures c.hom_rules.ensures.rules c.depth.ensures.depth in
    let goes = goes_then l c.new-walk.result.coming c.take_below.new.walk.coming c.take_rest.new.walk.coming c.new-keeper.result c.take_below.new.keeper c.take_rest.new.keeper c.in_ok-take_below.ensures c.in_ok-take_rest.ensures.goes in
    busy_taken l c.take_rest.new.walk.coming.symbols c.take_rest.new.keeper
    (going_then l c.new-walk.result.coming c.take_rest.new.walk.coming c.new-keeper.result c.take_rest.new.keeper (start_going l s levels c.requires.drawn c.new-walk.result.coming c.new-keeper.result begun c.new-keeper.ensures) goes).busy

pub returns-clause-taken : goal.returns-clause-taken
returns-clause-taken g c =
    let l = g.T.Lattice.shape in
    let s = c.args.system.now in
    let levels = complete_levels c.args.forest.now in
    let begun = walk_begun s levels c.new-walk.result.coming _ c.depth.result c.new-walk.ensures c.hom_rules.ensures.rules c.depth.ensures.depth in
    let goes = goes_then l c.new-walk.result.coming c.take_below.new.walk.coming c.take_rest.new.walk.coming c.new-keeper.result c.take_below.new.keeper c.take_rest.new.keeper c.in_ok-take_below.ensures c.in_ok-take_rest.ensures.goes in
    let image = (last_image s levels).symbols in
    c.finish.ensures.taken image image
    (whole_taken l s levels c.requires.drawn c.new-walk.result.coming c.take_rest.new.walk.coming c.new-keeper.result c.take_rest.new.keeper begun c.new-keeper.ensures goes c.in_ok-take_rest.ensures.all)
