use Rattle.std.proofs.Common.{◌≡◌, ◌≤◌, take}
use Rattle.lsys_children.specs.Children.{births}
use Rattle.lsys_children.proofs.need.births.Given as goal

abbrev pub invariant-loop-old : goal.invariant-loop-old
invariant-loop-old l = record { count : l.nodes ≡ births (take l.old-index l.found); few : l.nodes ≤ l.old-index }
