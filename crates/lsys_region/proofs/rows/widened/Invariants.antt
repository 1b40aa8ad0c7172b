use Rattle.std.proofs.Common.{◌≡◌, ◌-◌, ◌≤◌, length, take}
use Rattle.std.specs.Vec.{vec_capacity}
use Rattle.lsys_region.proofs.rows.widened.Given as goal

abbrev pub invariant-loop-large : goal.invariant-loop-large
invariant-loop-large l = record { items : l.large.items ≡ take (length l.large.items) l.small.items; within : length l.large.items ≤ length l.small.items; capacity : vec_capacity l.small ≤ vec_capacity l.large }

abbrev pub decreases-loop-large : goal.decreases-loop-large
decreases-loop-large l = length l.small.items - length l.large.items
