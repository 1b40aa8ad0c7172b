use Rattle.std.proofs.Common.{◌≡◌, ◌≤◌, length}
use Rattle.lsys_out.specs.Drawings.{drawing}
use Rattle.lsys_out.specs.Nesting.{CanGo}
use Rattle.lsys_out.proofs.way.TurtleWay.next.Given as goal

-- no segment was drawn so far
abbrev pub invariant-symbols : goal.invariant-symbols
invariant-symbols g l = record {
  same : drawing g.T.Lattice.shape l.self l.turtle.turtle ≡ drawing g.T.Lattice.shape l.initial.self l.initial.turtle.turtle;
  can_go : CanGo l.self.image.symbols l.turtle;
  fewer : length l.self.image.symbols ≤ length l.initial.self.image.symbols;
  room : l.turtle.room ≡ l.initial.turtle.room;
}

abbrev pub decreases-symbols : goal.decreases-symbols
decreases-symbols g l = length l.self.image.symbols
