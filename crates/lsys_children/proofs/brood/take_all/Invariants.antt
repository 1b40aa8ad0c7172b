use Rattle.std.specs.HashMap.{get}
use Rattle.lsys_children.specs.Matches.{same_child_number}
use Rattle.lsys_children.specs.Children.{numbers_of}
use Rattle.lsys_children.proofs.MatchLemmas.{IsTaken}
use Rattle.lsys_children.proofs.brood.take_all.Given as goal

abbrev pub invariant-loop-child : goal.invariant-loop-child
invariant-loop-child l = IsTaken (get same_child_number l.fn.nodes) (get same_child_number l.nodes) (numbers_of l.wanted) l.child-index l.found.items
