use Rattle.std.proofs.Common.{◌≡◌, ◌++◌, ◌≤◌, length, drop, reverse}
use Rattle.lsys_walks.proofs.left.push_reversed.Given as goal

abbrev pub invariant-loop-rest : goal.invariant-loop-rest
invariant-loop-rest l = (l.list.items ≡ l.fn.list.items ++ reverse (drop l.rest l.values)) × (l.rest ≤ length l.values)

abbrev pub decreases-loop-rest : goal.decreases-loop-rest
decreases-loop-rest l = l.rest
