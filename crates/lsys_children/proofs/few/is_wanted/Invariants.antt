use Rattle.std.proofs.Common.{◌≡◌, false, take}
use Rattle.lsys_children.specs.Matches.{has_number}
use Rattle.lsys_children.specs.Children.{numbers_of}
use Rattle.lsys_children.proofs.few.is_wanted.Given as goal

abbrev pub invariant-loop-child : goal.invariant-loop-child
invariant-loop-child l = has_number (take l.child-index (numbers_of l.wanted)) l.number ≡ false
