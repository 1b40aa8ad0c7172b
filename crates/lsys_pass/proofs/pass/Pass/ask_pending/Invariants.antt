use Rattle.std.proofs.Common.{length}
use Rattle.lsys_pass.proofs.Editing.{Goes}
use Rattle.lsys_pass.proofs.pass.Pass.ask_pending.Given as goal

abbrev pub invariant-loop-node : goal.invariant-loop-node
invariant-loop-node g l = Goes l.initial.self l.self l.initial.asked l.asked l.initial.visited l.visited

abbrev pub decreases-loop-node : goal.decreases-loop-node
decreases-loop-node g l = length l.self.pending
