use Rattle.std.proofs.Common.{◌≡◌, map, take}
use Rattle.lsys_forest.specs.Groves.{now_of}
use Rattle.lsys_children.specs.Matches.{number_of}
use Rattle.lsys_children.specs.Children.{numbers_of}
use Rattle.lsys_children.proofs.brood.have_numbers.Given as goal

abbrev pub invariant-loop-place : goal.invariant-loop-place
invariant-loop-place g l = map (number_of (now_of l.forest)) (take l.place l.kids) ≡ take l.place (numbers_of l.wanted)
