-- The children of some parents are made those that are wanted of them.
use Rattle.std.specs.Prelude.{◌≡◌, ◌+◌, ◌≤◌, ℕ, List, ◌++◌, Some, Result, OnOk}
use Rattle.lsys_spec.specs.Rows.{mirrored}
use Rattle.lsys_reading.specs.declared.parts.Lineage.{Lineage as Numbering}
use Rattle.lsys_reading.specs.Commands.{numbering_of}
use Rattle.lsys_match.specs.Kept.{Kept}
use Rattle.lsys_forest.specs.Nodes.{Node}
use Rattle.lsys_forest.specs.Groves.{Grove, now_of, live_nodes}
use Rattle.lsys_children.specs.declared.need.Need.{Need}
use Rattle.lsys_children.specs.Children.{ToldNodes, SpendsNeed}
use Rattle.lsys_children.specs.Nexts.{Successors}
use Rattle.lsys_children.specs.Renewals.{AreRenewals}
use Rattle.lsys_children.specs.declared.parent.Parent.{Parent}
use Rattle.lsys_children.specs.Parents.{nodes_in, AreParents, AreToldBy}
use Rattle.lsys_children.specs.Needs.{needs, need_at_parent}
use Rattle.lsys_children.specs.Made.{IsRenewed, TellsAllOf, gone_of}

-- what the step for one parent takes
abbrev pub need_of_one : Numbering → Grove Kept → Parent → Need
need_of_one g f p = need_at_parent (numbering_of g) (now_of f) p

-- and the steps for some
abbrev pub needs_of : Numbering → Grove Kept → List Parent → Need
needs_of g f ps = needs (numbering_of g) (now_of f) ps

-- they took so much of the room
abbrev pub SpendsNeeds : Numbering → Grove Kept → Grove Kept → List Parent → Type 0
SpendsNeeds g old new ps = SpendsNeed old new (needs_of g old ps)

-- no more nodes came to live than were counted
abbrev pub CameAsCounted : Numbering → Grove Kept → Grove Kept → List Parent → Type 0
CameAsCounted g old new ps = live_nodes new ≤ live_nodes old + (needs_of g old ps).nodes

-- Where the parents, by their keys, are of one seed and one depth, they have the children that are wanted of them.
abbrev pub AreAllRenewed : Numbering → Grove Kept → Grove Kept → List Parent → Type 0
AreAllRenewed g old new ps =
    (seed depth : ℕ) (by : Successors)
    → AreParents seed depth (now_of old) old.root (nodes_in ps)
    → AreToldBy by (now_of old) ps
    → AreRenewals (numbering_of g) seed (now_of old) (now_of new) old.root depth by
    (mirrored (nodes_in ps))

-- it was told what differs
abbrev pub TellsOfThem : Grove Kept → Grove Kept → List Parent → ToldNodes → ToldNodes → Type 0
TellsOfThem old new ps before after =
    TellsAllOf (now_of old) (now_of new) (mirrored (nodes_in ps)) before after

-- and which children are gone
abbrev pub GoneFromThem : Numbering → Grove Kept → List Parent → ToldNodes → ToldNodes → Type 0
GoneFromThem g f ps before after =
    after.gone ≡ before.gone ++ gone_of (numbering_of g) (now_of f) ps

-- the children of one parent are those that are wanted of it, and it was told what differs
abbrev pub Renews : Numbering → Grove Kept → Grove Kept → Parent → ToldNodes → ToldNodes → Type 0
Renews g old new p before after =
    (n : Node Kept) → now_of old p.node ≡ Some n
    → IsRenewed (numbering_of g) old new p n before after

-- where there was memory
abbrev pub RenewsIfOk : {X E : Type 0} → Result X E → Numbering → Grove Kept → Grove Kept
    → Parent → ToldNodes → ToldNodes → Type 0
RenewsIfOk result g old new p before after = OnOk result (Renews g old new p before after)
