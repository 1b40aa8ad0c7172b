use Rattle.std.proofs.Common.{length}
use Rattle.lsys_out.specs.Drawings.{drawing, last_drawing}
use Rattle.lsys_out.specs.Nesting.{CanGo}
use Rattle.lsys_motion.proofs.Surveying.{Surveying}
use Rattle.lsys_motion.proofs.survey.survey_picture.Given as goal

abbrev pub invariant-segments : goal.invariant-segments
invariant-segments g l = record {
  so_far : Surveying g.T.Lattice.shape (last_drawing g.T.Lattice.shape l.system (g.W.LevelView.levels l.view)) (drawing g.T.Lattice.shape l.way l.turtle.turtle) l.extents;
  can_go : CanGo l.way.image.symbols l.turtle;
}

abbrev pub decreases-segments : goal.decreases-segments
decreases-segments g l = length l.way.image.symbols
