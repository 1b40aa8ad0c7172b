use Rattle.std.proofs.Common.{◌≡◌, ◌≤◌, ◌<◌, ℕ, Some, slice_get}
use Rattle.lsys_forest.specs.Rows.{place_of_node}
use Rattle.lsys_pass.specs.declared.fault.Faulted.{Faulted}
use Rattle.lsys_pass.proofs.refusal.leftmost.Given as goal

abbrev pub invariant-loop-fault : goal.invariant-loop-fault
invariant-loop-fault g l =
    ((i : ℕ) × (slice_get l.faults i ≡ Some l.first))
    × ((i : ℕ) (b : Faulted) → i < l.fault-index → slice_get l.faults i ≡ Some b → place_of_node l.forest l.first.node ≤ place_of_node l.forest b.node)
