use Rattle.std.proofs.Common.{◌≡◌, ◌≤◌, ◌+◌, length}
use Rattle.lsys_syntax.specs.Limits.{most_image_symbols}
use Rattle.lsys_out.specs.Drawings.{drawing, last_drawing}
use Rattle.lsys_out.specs.Nesting.{CanGo}
use Rattle.lsys_out.proofs.Surveying.{Surveying}
use Rattle.lsys_out.proofs.survey.survey_picture.Given as goal

abbrev pub invariant-loop-way : goal.invariant-loop-way
invariant-loop-way g l = record {
  so_far : Surveying g.T.Lattice.shape (last_drawing g.T.Lattice.shape l.system (g.W.LevelView.levels l.view)) (drawing g.T.Lattice.shape l.way l.turtle.turtle) l.survey;
  few : l.survey.count + length l.way.image.symbols ≤ most_image_symbols;
  can_go : CanGo l.way.image.symbols l.turtle;
  room : l.turtle.room ≡ l.fn.turtle.room;
}

abbrev pub decreases-loop-way : goal.decreases-loop-way
decreases-loop-way g l = length l.way.image.symbols
