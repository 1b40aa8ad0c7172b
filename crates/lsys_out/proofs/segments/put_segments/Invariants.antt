use Rattle.std.proofs.Common.{◌≡◌, None, length}
use Rattle.std.specs.Prelude.{flat_map}
use Rattle.lsys_spec.specs.PictureTexts.{segment_line, segments_text}
use Rattle.lsys_out.specs.Drawings.{drawing, last_drawing}
use Rattle.lsys_out.specs.Nesting.{CanGo}
use Rattle.lsys_out.proofs.Resting.{Rests}
use Rattle.lsys_out.proofs.segments.put_segments.Given as goal

abbrev pub invariant-segments : goal.invariant-segments
invariant-segments g l = record {
  rests : Rests g.K.Sink.written g.K.Sink.faults l.fn.sink l.sink l.fn.out l.out (segments_text (last_drawing g.T.Lattice.shape l.system (g.W.LevelView.levels l.view)).segments) (flat_map segment_line (drawing g.T.Lattice.shape l.way l.turtle.turtle).segments);
  drawn : (drawing g.T.Lattice.shape l.way l.turtle.turtle).refusal ≡ None;
  can_go : CanGo l.way.image.symbols l.turtle;
  room : l.turtle.room ≡ l.fn.turtle.room;
}

abbrev pub decreases-segments : goal.decreases-segments
decreases-segments g l = length l.way.image.symbols
