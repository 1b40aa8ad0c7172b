use Rattle.std.proofs.Common.{◌-◌, ◌≡◌, ℕ, Some, slice_get, ◌≤◌, length}
use Rattle.lsys_pass.proofs.queue.Queue.place_of.Given as goal

abbrev pub invariant-loop-first : goal.invariant-loop-first
invariant-loop-first g l = record {
  within : l.end ≤ length l.self;
  from : (i : ℕ) → slice_get l.self i ≡ Some l.node → l.first ≤ i;
  to : (i : ℕ) → slice_get l.self i ≡ Some l.node → i ≤ l.end;
}

abbrev pub decreases-loop-first : goal.decreases-loop-first
decreases-loop-first g l = l.end - l.first
