use Rattle.lsys_children.proofs.Listed.{Listing, left_over}
use Rattle.lsys_children.proofs.listing.list_level.Given as goal

abbrev pub invariant-loop-at : goal.invariant-loop-at
invariant-loop-at g l = Listing l.forest l.level l.nodes.items l.at

abbrev pub decreases-loop-at : goal.decreases-loop-at
decreases-loop-at g l = left_over l.forest l.level l.at
