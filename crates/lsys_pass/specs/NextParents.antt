-- The parents of the next level, and what they want together.
use Rattle.std.specs.Prelude.{ℕ, length}
use Rattle.lsys_children.specs.declared.count.ChildCount.{ChildCount}
use Rattle.lsys_children.specs.declared.need.Need.{Need}
use Rattle.lsys_children.specs.Needs.{IsBoundedCount, count_of_all, had_by_all, needs}
use Rattle.lsys_pass.specs.declared.parents.Parents.{Parents}
use Rattle.lsys_pass.specs.Fresh.{AreWalkedOrAlone}
use Rattle.lsys_pass.specs.Passes.{PassView, now_in}

-- what the steps for the parents take
abbrev pub needs_for : PassView → Parents → Need
needs_for v ps = needs v.next.numbering (now_in v) ps.list.items

-- what is counted of their children
abbrev pub count_for : PassView → Parents → ChildCount
count_for v ps = count_of_all v.next.numbering (now_in v) ps.list.items

abbrev pub IsSmallCount : PassView → Parents → ChildCount → Type 0
IsSmallCount v ps c = IsBoundedCount (length ps.list.items) (had_by_all (now_in v) ps.list.items) c

-- they are all nodes of the level, or some of them
abbrev pub AreWholeOrAlone : PassView → ℕ → Parents → Type 0
AreWholeOrAlone v t ps = AreWalkedOrAlone v t ps.is_whole ps.list.items
