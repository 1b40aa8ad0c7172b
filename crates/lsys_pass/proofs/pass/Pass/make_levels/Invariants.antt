use Rattle.lsys_pass.proofs.Editing.{Makes, left_of}
use Rattle.lsys_pass.proofs.pass.Pass.make_levels.Given as goal

abbrev pub invariant-loop-self : goal.invariant-loop-self
invariant-loop-self g l = Makes l.initial.self l.self l.initial.asked l.asked l.initial.visited l.visited

abbrev pub decreases-loop-self : goal.decreases-loop-self
decreases-loop-self g l = left_of l.self.next l.self.state
