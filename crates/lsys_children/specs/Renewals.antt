-- Parents of one depth whose children were renewed, one parent after the other.
use Rattle.std.specs.Prelude.{◌≡◌, ◌≢◌, ◌+◌, ◌<◌, ◌≤◌, ℕ, List, [], Some, None}
use Rattle.lsys_spec.specs.Rows.{In}
use Rattle.lsys_syntax.specs.Commands.{Numbering}
use Rattle.lsys_spec.specs.Draws.{number_base}
use Rattle.lsys_laws.specs.Nodes.{AreOnce, Extends}
use Rattle.lsys_forest.specs.Nodes.{Node, Nodes, with_kids}
use Rattle.lsys_forest.specs.Rows.{kids_in, spot_in}
use Rattle.lsys_children.specs.declared.child.Child.{Child}
use Rattle.lsys_children.specs.Children.{born, renewed}
use Rattle.lsys_reads.specs.Lineages.{kins}
use Rattle.lsys_children.specs.Nexts.{Successors, HasWanted}

module _ {A : Type 0} where
  -- each node's count is one of those that there are for a code
  abbrev pub AreSmall : Nodes A → Type 0
  AreSmall m = (k : ℕ) (n : Node A) → m k ≡ Some n → n.count < number_base

  -- all nodes of this parent are its children
  abbrev pub AreAllUnder : Nodes A → ℕ → ℕ → Type 0
  AreAllUnder m root p =
      (k : ℕ) (n : Node A) → m k ≡ Some n → k ≢ root → n.parent ≡ p → In k (kids_in (m p))

  -- What became of a node: it stayed; or it is one of the parents, and has other children; or it is an old child of one of
  -- them, with another symbol or another key; or a new child of one of them.
  pub data Renewal (old new : Nodes A) (depth : ℕ) (done : List ℕ) (k : ℕ) : Type 0 where
    stayed : new k ≡ old k → Renewal old new depth done k
    relisted : (n : Node A) (ks : List ℕ) → In k done → old k ≡ Some n → n.depth ≡ depth
        → new k ≡ Some (with_kids ks n) → Renewal old new depth done k
    turned : (n : Node A) (w : Child) → In n.parent done → old k ≡ Some n → n.depth ≡ depth + 1
        → new k ≡ Some (renewed w n) → Renewal old new depth done k
    came : (p : ℕ) (w : Child) → In p done → old k ≡ None
        → new k ≡ Some (born p (depth + 1) w) → Renewal old new depth done k

  -- The children of these parents, all of this depth, were renewed, and are those that the parents' successors want; what
  -- became of each other node is told. Lineages stay, and no two nodes of a depth have one.
  pub record AreRenewals (g : Numbering) (seed : ℕ) (old new : Nodes A) (root depth : ℕ)
      (by : Successors) (done : List ℕ) : Type 0 where
    pub small : AreSmall new
    pub was_once : AreOnce (kins old) root
    pub once : AreOnce (kins new) root
    pub stay : Extends (kins old) (kins new)
    pub parents : (k : ℕ) → In k done → (n : Node A) × (old k ≡ Some n) × (n.depth ≡ depth)
    pub each : (k : ℕ) → Renewal old new depth done k
    pub wanted : (k : ℕ) → In k done → HasWanted g seed new k (by k)

  -- The nodes that are at most so deep have the symbols and the keys that they had, and those that are less deep have the
  -- children that they had.
  pub record KeepsUpper (old new : Nodes A) (depth : ℕ) : Type 0 where
    pub spots : (k : ℕ) (n : Node A) → old k ≡ Some n → n.depth ≤ depth
        → spot_in k (new k) ≡ spot_in k (old k)
    pub lists : (k : ℕ) (n : Node A) → old k ≡ Some n → n.depth < depth
        → kids_in (new k) ≡ kids_in (old k)

  -- The nodes m, made of the nodes o, have not come deeper than this: those that lived and are deeper are as they were; those
  -- that are so deep have the children that they had, or none, if they are new.
  pub record KeepsDeeper (o m : Nodes A) (depth : ℕ) : Type 0 where
    pub kids : (k : ℕ) (n p : Node A) → m k ≡ Some n → o k ≡ Some p → n.depth ≡ depth
        → n.kids ≡ p.kids
    pub new_kids : (k : ℕ) (n : Node A) → m k ≡ Some n → o k ≡ None → n.depth ≡ depth → n.kids ≡ []
    pub deeper : (k : ℕ) (n : Node A) → o k ≡ Some n → depth < n.depth → m k ≡ Some n
    pub none_deeper : (k : ℕ) (n : Node A) → m k ≡ Some n → o k ≡ None → n.depth ≤ depth
