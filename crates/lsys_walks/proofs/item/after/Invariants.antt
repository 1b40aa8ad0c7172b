use Rattle.std.proofs.Common.{◌-◌, ◌<◌, ◌≤◌, length}
use Rattle.lsys_walks.proofs.Items.{Inside}
use Rattle.lsys_walks.proofs.item.after.Given as goal

abbrev pub invariant-loop-place : goal.invariant-loop-place
invariant-loop-place l = Inside l.items l.at l.place l.inside × (l.place ≤ length l.items) × (l.inside ≤ l.place) × (l.at < l.place)

abbrev pub decreases-loop-place : goal.decreases-loop-place
decreases-loop-place l = length l.items - l.place
