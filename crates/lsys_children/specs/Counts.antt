-- What is counted for parents, before their children are made.
use Rattle.std.specs.Prelude.{◌≡◌, ◌≤◌, ◌^◌, ℕ, List, length}
use Rattle.lsys_syntax.specs.Commands.{Numbering}
use Rattle.lsys_forest.specs.Nodes.{Nodes}
use Rattle.lsys_match.specs.Kept.{Kept}
use Rattle.lsys_children.specs.declared.parent.Parent.{Parent}
use Rattle.lsys_children.specs.declared.count.ChildCount.{ChildCount}
use Rattle.lsys_children.specs.Needs.{IsBoundedCount, count_at_parent, count_of_all, had_by_all}

-- this is what the step for one parent takes, how many children are wanted of it, and how many it has
abbrev pub CountsOne : Numbering → Nodes Kept → Parent → ChildCount → Type 0
CountsOne g m p count = count ≡ count_at_parent g m p

-- and so for some parents together
abbrev pub CountsAll : Numbering → Nodes Kept → List Parent → ChildCount → Type 0
CountsAll g m ps count = count ≡ count_of_all g m ps

-- the count is no more than these parents, with the children that they have, can have
abbrev pub IsSmallFor : Nodes Kept → List Parent → ChildCount → Type 0
IsSmallFor m ps count = IsBoundedCount (length ps) (had_by_all m ps) count

-- two counts, that of some parents and that of one more, have a sum that the machine's numbers hold
abbrev pub AreAddable : ChildCount → ChildCount → Type 0
AreAddable one more =
    (n : ℕ) × (h : ℕ) × IsBoundedCount n h one × IsBoundedCount 1 more.had more
    × (n ≤ 2 ^ 32) × (h ≤ 2 ^ 32) × (more.had ≤ 2 ^ 32)
