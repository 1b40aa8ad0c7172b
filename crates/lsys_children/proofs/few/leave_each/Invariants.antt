use Rattle.std.proofs.Common.{◌≡◌, take}
use Rattle.lsys_forest.specs.Groves.{now_of}
use Rattle.lsys_children.specs.Matches.{nodes_without}
use Rattle.lsys_children.specs.Children.{numbers_of}
use Rattle.lsys_children.proofs.few.leave_each.Given as goal

abbrev pub invariant-loop-kid : goal.invariant-loop-kid
invariant-loop-kid g l = l.gone.items ≡ nodes_without (now_of l.forest) (numbers_of l.wanted) (take l.kid-index l.kids)
