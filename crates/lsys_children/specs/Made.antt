-- The children of parents, made.
use Rattle.std.specs.Prelude.{◌↔◌, ◌⊎◌, ◌++◌, ◌∷◌, [], ℕ, List, map}
use Rattle.lsys_spec.specs.Rows.{In}
use Rattle.lsys_syntax.specs.Commands.{Numbering}
use Rattle.lsys_forest.specs.Nodes.{Node, Nodes}
use Rattle.lsys_forest.specs.Groves.{Grove, now_of}
use Rattle.lsys_forest.specs.Rows.{kids_in}
use Rattle.lsys_children.specs.declared.child.Child.{Child}
use Rattle.lsys_children.specs.Matches.{nodes_without}
use Rattle.lsys_children.specs.Children.{ToldNodes, IsNewNode, HasTurned, KeepsChildren, AreRenewed, TellsOf, SpendsNeed}
use Rattle.lsys_match.specs.Kept.{Kept}
use Rattle.lsys_children.specs.Wishes.{AreWanted}
use Rattle.lsys_children.specs.declared.parent.Parent.{Parent}
use Rattle.lsys_children.specs.Parents.{wants}
use Rattle.lsys_children.specs.Needs.{number_told, wanted_symbols, need_at_parent}

-- The children of one parent, which was this node, are those that are wanted of it, and it was told what differs.
pub record IsRenewed (g : Numbering) (old new : Grove Kept) (p : Parent) (n : Node Kept) (before after : ToldNodes) : Type 0 where
  pub children : List Child
  pub wanted : AreWanted g n.key (wants (now_of old) p) children
  pub renewed : AreRenewed (now_of old) (now_of new) p.node n children (kids_in (now_of new p.node))
  pub told : TellsOf (now_of old) (now_of new) p.node n children (kids_in (now_of new p.node)) before after
  pub spends : SpendsNeed old new (need_at_parent g (now_of old) p)

-- the node is a child of one of these
abbrev pub IsChildOfAny : {A : Type 0} → Nodes A → List ℕ → ℕ → Type 0
IsChildOfAny m ps k = (p : ℕ) × In p ps × In k (kids_in (m p))

-- What is told of these parents, whose children were made: which of them have other children, or children of other kinds; and
-- which of their children have another symbol, and which are new.
pub record TellsAllOf {A : Type 0} (old new : Nodes A) (ps : List ℕ) (before after : ToldNodes) : Type 0 where
  pub touched : (k : ℕ) → In k after.touched ↔ (In k before.touched ⊎ (In k ps × (KeepsChildren old new k → ⊥)))
  pub changed : (k : ℕ) → In k after.changed ↔ (In k before.changed ⊎ (IsChildOfAny new ps k × HasTurned old new k))
  pub added : (k : ℕ) → In k after.added ↔ (In k before.added ⊎ (IsChildOfAny new ps k × IsNewNode old k))

-- the children of a parent that are no more: those of which none is wanted with their number
abbrev pub gone_at : Numbering → Nodes Kept → Parent → List ℕ
gone_at g m p = nodes_without m (map number_told (wanted_symbols g (wants m p))) (kids_in (m p.node))

-- and of all
abbrev pub gone_of : Numbering → Nodes Kept → List Parent → List ℕ
gone_of g m [] = []
gone_of g m (p ∷ ps) = gone_at g m p ++ gone_of g m ps
