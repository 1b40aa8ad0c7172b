use Rattle.std.proofs.Common.{◌≡◌}
use Rattle.lsys_forest.specs.Groves.{rest_of, kept_in}
use Rattle.lsys_reading.specs.Commands.{numbering_of}
use Rattle.lsys_children.proofs.Making.{AreMadeSoFar}
use Rattle.lsys_children.proofs.make.make_children.Given as goal

abbrev pub invariant-loop-parent : goal.invariant-loop-parent
invariant-loop-parent g l = record {
  made : AreMadeSoFar (numbering_of l.numbering) l.fn.forest l.forest l.fn.changes l.changes l.parents l.parent-index;
  rest : rest_of l.forest ≡ rest_of l.fn.forest;
  kept : kept_in l.forest ≡ kept_in l.fn.forest;
  root : l.forest.root ≡ l.fn.forest.root;
}
