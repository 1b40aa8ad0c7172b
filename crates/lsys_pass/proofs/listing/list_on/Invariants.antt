use Rattle.lsys_children.proofs.Listed.{left_over}
use Rattle.lsys_pass.proofs.Listed.{AreListedTo}
use Rattle.lsys_pass.proofs.listing.list_on.Given as goal

abbrev pub invariant-loop-at : goal.invariant-loop-at
invariant-loop-at g l = AreListedTo l.forest l.store l.level l.fn.reads l.at l.reads

abbrev pub decreases-loop-at : goal.decreases-loop-at
decreases-loop-at g l = left_over l.forest l.level l.at
