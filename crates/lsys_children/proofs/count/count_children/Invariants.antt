use Rattle.std.proofs.Common.{◌≡◌, take}
use Rattle.lsys_forest.specs.Groves.{now_of}
use Rattle.lsys_reading.specs.Commands.{numbering_of}
use Rattle.lsys_children.specs.Needs.{IsBoundedCount, count_of_all, had_by_all}
use Rattle.lsys_children.proofs.count.count_children.Given as goal

abbrev pub invariant-loop-parent : goal.invariant-loop-parent
invariant-loop-parent g l = record {
  count : l.count ≡ count_of_all (numbering_of l.numbering) (now_of l.forest) (take l.parent-index l.parents);
  small : IsBoundedCount l.parent-index (had_by_all (now_of l.forest) (take l.parent-index l.parents)) l.count;
}
