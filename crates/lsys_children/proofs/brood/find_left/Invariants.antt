use Rattle.std.proofs.Common.{◌≡◌, take}
use Rattle.std.specs.Prelude.{is_some}
use Rattle.std.specs.HashMap.{get}
use Rattle.lsys_forest.specs.Groves.{now_of}
use Rattle.lsys_children.specs.Matches.{same_child_number, nodes_where}
use Rattle.lsys_children.proofs.brood.find_left.Given as goal

abbrev pub invariant-loop-kid : goal.invariant-loop-kid
invariant-loop-kid g l = l.gone.items ≡ nodes_where (λ q. is_some (get same_child_number l.nodes q)) (now_of l.forest) (take l.kid-index l.kids)
