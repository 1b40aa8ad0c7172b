use Rattle.std.proofs.Common.{◌≡◌, length}
use Rattle.lsys_tests_derivations.proofs.scripts.ask_pending.Given as goal

abbrev pub invariant-loop-alloc : goal.invariant-loop-alloc
invariant-loop-alloc g l = l.pass.state ≡ l.initial.pass.state

abbrev pub decreases-loop-alloc : goal.decreases-loop-alloc
decreases-loop-alloc g l = length l.pass.pending
