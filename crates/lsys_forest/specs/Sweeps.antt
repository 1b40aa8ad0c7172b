-- How the nodes that are reached no more are removed.
use Rattle.std.specs.Prelude.{◌≡◌, ◌≢◌, ◌⊎◌, ◌+◌, ◌≤◌, ℕ, Bool, false, IsTrue, List, [], ◌∷◌, length, Some, None, IsSome}
use Rattle.lsys_spec.specs.Rows.{In}
use Rattle.lsys_forest.specs.declared.node.Footing.{Footing}
use Rattle.lsys_forest.specs.Slots.{footing_at, live_slots}
use Rattle.lsys_forest.specs.Nodes.{Node, Nodes}
use Rattle.lsys_forest.specs.Changes.{Change}
use Rattle.lsys_forest.specs.Stocks.{Stock, nodes_of, changes_of, KeepsRoom}
use Rattle.lsys_forest.specs.Ranks.{AreRanked}
use Rattle.lsys_forest.specs.Groves.{Reached, Named, IsRooted}

module _ {A : Type 0} where
  -- the node is fast: its parent lives, and has it among its children
  pub record IsFast (m : Nodes A) (k : ℕ) (n : Node A) : Type 0 where
    pub parent : Node A
    pub is : m n.parent ≡ Some parent
    pub among : In k parent.kids

  -- What a commit keeps true while it removes nodes from `first`: none that is reached was removed, and each other that is
  -- left and not fast is among `left`, or a change names it. The children of a node that is left are left.
  pub record IsSwept (first : Nodes A) (root : ℕ) (m : Nodes A) (changes : List (Change A)) (left : List ℕ) : Type 0 where
    pub same : (k : ℕ) → (m k ≡ first k) ⊎ ((m k ≡ None) × (Reached first root k → ⊥))
    pub cover : (k : ℕ) (n : Node A) → m k ≡ Some n → k ≢ root → IsFast m k n ⊎ In k left ⊎ Named changes k
    pub kids : (p k : ℕ) (n : Node A) → m p ≡ Some n → In k n.kids → IsSome (m k)

  -- the same, and each node that is left stands as it stood
  pub record IsSweptOf (first : Nodes A) (stood : List Footing) (root : ℕ) (t : Stock A) (left : List ℕ) : Type 0 where
    pub swept : IsSwept first root (nodes_of t) (changes_of t) left
    pub ranked : AreRanked (nodes_of t) t.footings
    pub stands : (j : ℕ) → IsSome (nodes_of t j) → footing_at t.footings j ≡ footing_at stood j

  -- the nodes in `left` were looked at, whatever the forest was first
  abbrev pub SweepsLeft : ℕ → Stock A → Stock A → List ℕ → Type 0
  SweepsLeft root old new left = (first : Nodes A) (before : List (Change A)) (stood : List Footing) → IsRooted root before first → IsSweptOf first stood root old left → IsSweptOf first stood root new []

  -- one node was looked at, whatever the forest was first
  abbrev pub SweepsOne : ℕ → Stock A → Stock A → ℕ → Type 0
  SweepsOne root old new k =
      (left : List ℕ) (first : Nodes A) (before : List (Change A)) (stood : List Footing)
      → IsRooted root before first
      → IsSweptOf first stood root old (k ∷ left) → IsSweptOf first stood root new left

  -- the node is not fast, if the answer is yes
  abbrev pub IsLooseIf : Bool → Stock A → ℕ → Type 0
  IsLooseIf answer t k =
      (n : Node A) → IsTrue answer → nodes_of t k ≡ Some n
      → AreRanked (nodes_of t) t.footings → IsFast (nodes_of t) k n → ⊥

  -- the node is fast, if the answer is no
  abbrev pub IsFastUnless : Bool → Stock A → ℕ → Type 0
  IsFastUnless answer t k =
      (n : Node A) → answer ≡ false → nodes_of t k ≡ Some n → IsFast (nodes_of t) k n

  -- the first node lacks the second among its children, if the answer is no
  abbrev pub LacksKidUnless : Bool → Stock A → ℕ → ℕ → Type 0
  LacksKidUnless answer t parent k =
      (p : Node A) → answer ≡ false → AreRanked (nodes_of t) t.footings
      → nodes_of t parent ≡ Some p → In k p.kids → ⊥

  -- a node that is removed makes place for the change that tells its children
  pub record KeepsPlaces (old new : Stock A) : Type 0 where
    pub places : length new.notes + live_slots new.slots ≡ length old.notes + live_slots old.slots
    pub live : live_slots new.slots ≤ live_slots old.slots
    pub room : KeepsRoom old new
    pub hand : new.hand ≡ old.hand
