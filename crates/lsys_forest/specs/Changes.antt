-- The changes of nodes since the last rest.
use Rattle.std.specs.Prelude.{ℕ, List, [], ◌∷◌, Option, None}
use Rattle.lsys_level.specs.Spots.{Seen}
use Rattle.lsys_forest.specs.Nodes.{Nodes, with_node, change, with_seen, with_key, with_kids, with_answer}

-- what stood at a node before a change
pub data Previous (A : Type 0) : Type 0 where
  Missing : Previous A
  OldSeen : Seen → Previous A
  OldKey : ℕ → Previous A
  OldKids : List ℕ → Previous A
  OldAnswer : Option A → Previous A

-- a change of one node
pub record Change (A : Type 0) : Type 0 where
  pub node : ℕ
  pub before : Previous A

module _ {A : Type 0} where
  abbrev pub undo_before : Previous A → ℕ → Nodes A → Nodes A
  undo_before Missing k m = with_node m k None
  undo_before (OldSeen x) k m = change (with_seen x) m k
  undo_before (OldKey x) k m = change (with_key x) m k
  undo_before (OldKids x) k m = change (with_kids x) m k
  undo_before (OldAnswer x) k m = change (with_answer x) m k

  abbrev pub undo : Change A → Nodes A → Nodes A
  undo c m = undo_before c.before c.node m

  -- the nodes before all these changes, of which the last one comes last
  abbrev pub undone : List (Change A) → Nodes A → Nodes A
  undone [] m = m
  undone (c ∷ changes) m = undo c (undone changes m)

  -- the change was not one of children
  abbrev pub KeepsKids : Previous A → Type 0
  KeepsKids (OldKids x) = ⊥
  KeepsKids b = Unit {0}
