-- What becomes of the nodes of a forest.
use Rattle.std.specs.Prelude.{◌≡◌, ◌+◌, ℕ, Some, List}
use Rattle.lsys_level.specs.Spots.{Seen}
use Rattle.lsys_forest.specs.Nodes.{Node, new_node, with_kids, with_node}
use Rattle.lsys_forest.specs.Groves.{Grove, now_of}

-- a node came under this parent, with this count and this symbol
abbrev pub GrowsNode : {A : Type 0} → Grove A → Grove A → ℕ → ℕ → Seen → ℕ → Type 0
GrowsNode {A = A} old new parent count seen k = (p : Node A) → now_of old parent ≡ Some p → now_of new ≡ with_node (now_of old) k (Some (new_node parent 0 count (p.depth + 1) seen 0))

-- a node has these children
abbrev pub GivesKids : {A : Type 0} → Grove A → Grove A → ℕ → List ℕ → Type 0
GivesKids {A = A} old new k kids = (n : Node A) → now_of old k ≡ Some n → now_of new ≡ with_node (now_of old) k (Some (with_kids kids n))
