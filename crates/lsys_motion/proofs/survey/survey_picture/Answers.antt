use Rattle.lsys_out.specs.Drawings.{drawing, last_drawing}
use Rattle.lsys_motion.proofs.Surveying.{surveying_none}
use Rattle.lsys_motion.proofs.survey.survey_picture.Goals as goal

pub segments-init : goal.segments-init
segments-init g c =
    let l = g.T.Lattice.shape in
    record {
      so_far = surveying_none l (last_drawing l c.args.system.now (g.W.LevelView.levels c.args.view.now)) (drawing l c.new-way.result c.new-way.new.turtle.turtle) c.of_origin-extents.result c.new-way.ensures.drawing c.of_origin-extents.ensures;
      can_go = c.new-way.ensures.can_go;
    }
