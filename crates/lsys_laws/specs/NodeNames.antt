-- What the lineages of nodes tell.
use Rattle.std.specs.Prelude.{◌≡◌, ◌≢◌, ◌++◌, ◌∷◌, ℕ, Some, [], ◌↔◌}
use Rattle.lsys_laws.specs.Nodes.{Kin, Kins, naming, AreOnce, Extends}

-- a node's lineage is its parent's and its own number
abbrev pub ChildrenAreNamedBelowTheirParents : Type 0
ChildrenAreNamedBelowTheirParents =
    (m : Kins) (root k : ℕ) (n : Kin) → AreOnce m root → m k ≡ Some n → k ≢ root
    → naming m k ≡ naming m n.parent ++ n.number ∷ []

-- two nodes of one level that have one lineage are one node
abbrev pub NodesOfOneLevelHaveTheirOwnNames : Type 0
NodesOfOneLevelHaveTheirOwnNames =
    (m : Kins) (root j k : ℕ) (a b : Kin) → AreOnce m root
    → m j ≡ Some a → m k ≡ Some b → a.depth ≡ b.depth → naming m j ≡ naming m k → j ≡ k

-- a node that still lives keeps its lineage, whatever else comes
abbrev pub LivingNodesKeepTheirNames : Type 0
LivingNodesKeepTheirNames =
    (m m' : Kins) (root k : ℕ) (a : Kin) → AreOnce m root → Extends m m'
    → m k ≡ Some a → naming m' k ≡ naming m k

-- between old nodes and new ones two numbers are equal exactly where level and lineage are
abbrev pub NodesAreOneByLevelAndName : Type 0
NodesAreOneByLevelAndName =
    (m m' : Kins) (root j k : ℕ) (a b : Kin) → AreOnce m root → AreOnce m' root
    → Extends m m' → m j ≡ Some a → m' k ≡ Some b
    → (j ≡ k) ↔ ((a.depth ≡ b.depth) × (naming m j ≡ naming m' k))
