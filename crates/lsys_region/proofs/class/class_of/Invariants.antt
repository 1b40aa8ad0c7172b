use Rattle.std.proofs.Common.{◌-◌, ◌≡◌, ◌<◌, ◌^◌, ℕ}
use Rattle.lsys_region.proofs.class.class_of.Given as goal

abbrev pub invariant-loop-room : goal.invariant-loop-room
invariant-loop-room l = record { power : l.room ≡ 2 ^ l.number; small : l.number < 64; below : (k : ℕ) → k < l.number → 2 ^ k < l.length }

abbrev pub decreases-loop-room : goal.decreases-loop-room
decreases-loop-room l = l.length - l.room
