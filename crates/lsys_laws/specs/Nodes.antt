-- Lineages of nodes, by their parents and their numbers. One naming serves for the levels of the last rest and for those of
-- now.
use Rattle.std.specs.Prelude.{◌≡◌, ◌≢◌, ◌+◌, ℕ, zero, suc, List, [], ◌∷◌, ◌++◌, Option, Some, None}

-- a node as its parent, its number under it, and how many steps it is below the root tell it
pub record Kin : Type 0 where
  pub parent : ℕ
  pub number : ℕ
  pub depth : ℕ

-- the nodes that live
abbrev pub Kins : Type 0
Kins = ℕ → Option Kin

abbrev pub kin_parent : Option Kin → ℕ
kin_parent None = 0
kin_parent (Some n) = n.parent

abbrev pub number_in : Option Kin → ℕ
number_in None = 0
number_in (Some n) = n.number

abbrev pub kin_depth : Option Kin → ℕ
kin_depth None = 0
kin_depth (Some n) = n.depth

-- the numbers on the last so many steps down to a node
abbrev pub lineage_in : Kins → ℕ → ℕ → List ℕ
lineage_in m zero k = []
lineage_in m (suc d) k = lineage_in m d (kin_parent (m k)) ++ number_in (m k) ∷ []

-- the lineage of a node: the root has the empty one
abbrev pub naming : Kins → ℕ → List ℕ
naming m k = lineage_in m (kin_depth (m k)) k

-- each live node but the root has a live parent, one step nearer to the root; and no two have one parent and one number
pub record AreOnce (m : Kins) (root : ℕ) : Type 0 where
  pub root_lives : (r : Kin) × (m root ≡ Some r) × (r.depth ≡ 0)
  pub held : (k : ℕ) (n : Kin) → m k ≡ Some n → k ≢ root
      → (p : Kin) × (m n.parent ≡ Some p) × (n.depth ≡ p.depth + 1)
  pub once : (j k : ℕ) (a b : Kin) → m j ≡ Some a → m k ≡ Some b → j ≢ root → k ≢ root
      → a.parent ≡ b.parent → a.number ≡ b.number → j ≡ k

-- each node that lived lives, where it was; others may have come
abbrev pub Extends : Kins → Kins → Type 0
Extends old new = (k : ℕ) (n : Kin) → old k ≡ Some n → new k ≡ Some n
