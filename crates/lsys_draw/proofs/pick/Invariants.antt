use Rattle.std.proofs.Common.{◌≡◌, ℕ, ◌+◌, ◌<◌, ◌≤◌, sum, take}
use Rattle.lsys_draw.proofs.pick.Given as goal

abbrev pub invariant-loop-place : goal.invariant-loop-place
invariant-loop-place l =
    (l.reached ≡ sum (take l.place l.weights))
    × ((k : ℕ) → k < l.place → sum (take (k + 1) l.weights) ≤ l.aim)
