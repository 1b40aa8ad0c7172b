use Rattle.std.proofs.Common.{◌≡◌, ◌++◌, None, length, codes}
use Rattle.std.specs.Prelude.{flat_map}
use Rattle.lsys_spec.specs.PictureTexts.{svg_text}
use Rattle.lsys_out.specs.Drawings.{drawing, last_drawing}
use Rattle.lsys_out.specs.Lines.{drawn_line}
use Rattle.lsys_out.specs.Nesting.{CanGo}
use Rattle.lsys_out.proofs.Resting.{Rests}
use Rattle.lsys_out.proofs.svg.put_svg.Given as goal

abbrev pub invariant-segments : goal.invariant-segments
invariant-segments g l = record {
  rests : Rests g.K.Sink.written g.K.Sink.faults l.fn.sink l.sink l.fn.out l.out (svg_text g.T.Lattice.shape (last_drawing g.T.Lattice.shape l.system (g.W.LevelView.levels l.view)).segments) (flat_map (drawn_line g.T.Lattice.shape) (drawing g.T.Lattice.shape l.way l.turtle.turtle).segments ++ codes "</svg>\n");
  drawn : (drawing g.T.Lattice.shape l.way l.turtle.turtle).refusal ≡ None;
  can_go : CanGo l.way.image.symbols l.turtle;
  room : l.turtle.room ≡ l.fn.turtle.room;
}

abbrev pub decreases-segments : goal.decreases-segments
decreases-segments g l = length l.way.image.symbols
