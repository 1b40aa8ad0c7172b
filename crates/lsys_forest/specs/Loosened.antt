-- How many nodes may be among no children, as it is kept.
use Rattle.std.specs.Prelude.{◌≡◌, ◌≢◌, ◌⊎◌, ◌≤◌, ◌+◌, ℕ, List, length, Option, Some, None}
use Rattle.lsys_spec.specs.Rows.{In}
use Rattle.lsys_forest.specs.Nodes.{Node, Nodes, with_node, with_kids}
use Rattle.lsys_forest.specs.Groves.{AreKids}
use Rattle.lsys_forest.specs.Sweeps.{IsFast}

module _ {A : Type 0} where
  -- each node but the root is among the children of its parent, or one of these
  abbrev pub AreFastBut : Nodes A → ℕ → List ℕ → Type 0
  AreFastBut m root loose = (k : ℕ) (n : Node A) → m k ≡ Some n → k ≢ root → IsFast m k n ⊎ In k loose

  -- those that may not be are at most so many
  pub record AreFewLoose (m : Nodes A) (root count : ℕ) : Type 0 where
    pub loose : List ℕ
    pub few : length loose ≤ count
    pub others : AreFastBut m root loose

  -- so it is, where it is known
  abbrev pub AreLoose : Option ℕ → Nodes A → ℕ → Type 0
  AreLoose None m root = Unit {0}
  AreLoose (Some count) m root = AreFewLoose m root count

  -- it is so once these are the children of a node
  abbrev pub StaysWithKids : Option ℕ → Option ℕ → Nodes A → ℕ → List ℕ → Type 0
  StaysWithKids old new m node kids =
      (root : ℕ) (n : Node A) → m node ≡ Some n → AreKids m root node kids → AreLoose old m root
      → AreLoose new (with_node m node (Some (with_kids kids n))) root

-- how many are loose, with one more, where it is known
abbrev pub StaysWithOne : Option ℕ → Option ℕ → Type 0
StaysWithOne old None = Unit {0}
StaysWithOne old (Some count) = (before : ℕ) × (old ≡ Some before) × (count ≡ before + 1)
