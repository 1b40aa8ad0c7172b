use Rattle.std.specs.Prelude.{◌-◌}
use Rattle.lsys_pass.proofs.Listed.{AreListedAbove}
use Rattle.lsys_pass.proofs.listing.list_all.Given as goal

abbrev pub invariant-loop-level : goal.invariant-loop-level
invariant-loop-level g l = AreListedAbove l.forest l.store l.depth l.level l.reads

abbrev pub decreases-loop-level : goal.decreases-loop-level
decreases-loop-level g l = l.depth - l.level
