use Rattle.std.proofs.Common.{◌≡◌, ◌≤◌, ◌*◌, take}
use Rattle.lsys_children.specs.Children.{params_for}
use Rattle.lsys_children.proofs.need.params_for.Given as goal

abbrev pub invariant-loop-child : goal.invariant-loop-child
invariant-loop-child l = record { count : l.cells ≡ params_for (take l.child-index l.wanted); few : l.cells ≤ 16 * l.child-index }
