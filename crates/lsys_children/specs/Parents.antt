-- Parents whose children are made, and what is wanted of them.
use Rattle.std.specs.Prelude.{◌≡◌, ◌≤◌, ℕ, ℤ, false, not, if◌then◌else◌, List, [], ◌∷◌, length, Option, Some, map}
use Rattle.lsys_spec.specs.Rows.{In, AreApart}
use Rattle.lsys_syntax.specs.Strings as S
use Rattle.lsys_spec.specs.Draws.{number_base, key_of}
use Rattle.lsys_laws.specs.Kinds.{stays, reached}
use Rattle.lsys_laws.specs.Children.{is_open}
use Rattle.lsys_laws.specs.Nodes.{AreOnce}
use Rattle.lsys_forest.specs.Nodes.{Node, Nodes}
use Rattle.lsys_reads.specs.Lineages.{kins, names}
use Rattle.lsys_match.specs.Kept.{Kept}
use Rattle.lsys_children.specs.Nexts.{Successors, node_kind}
use Rattle.lsys_children.specs.Renewals.{AreSmall, AreAllUnder}
use Rattle.lsys_children.specs.Answers.{kept_successors}
use Rattle.lsys_children.specs.declared.parent.Parent.{Parent}

abbrev pub parent_node : Parent → ℕ
parent_node p = p.node

-- their nodes, in order
abbrev pub nodes_in : List Parent → List ℕ
nodes_in ps = map parent_node ps

-- what is wanted of a parent: what replaces it, and nothing where its children are cut off
abbrev pub wants : Nodes Kept → Parent → List (S.Symbol ℤ)
wants m p = if p.is_cut then [] else kept_successors m p.node

-- it is told what is wanted of each of these
abbrev pub AreToldBy : Successors → Nodes Kept → List Parent → Type 0
AreToldBy by m [] = Unit {0}
AreToldBy by m (p ∷ ps) = (by p.node ≡ wants m p) × AreToldBy by m ps

-- nodes of a level as parents: which of them a walk from the left finds to be cut off, after what is being cut off
abbrev pub cut_parents : Nodes Kept → Option ℕ → List ℕ → List Parent
cut_parents m o [] = []
cut_parents m o (k ∷ ks) = record { node = k; is_cut = not (stays o (node_kind m k)) } ∷ cut_parents m (reached o (node_kind m k) (is_open (kept_successors m k))) ks

-- nodes as parents of which none is cut off
abbrev pub uncut : ℕ → Parent
uncut k = record { node = k; is_cut = false }

-- A node of this depth has the key that its lineage gives it by the seed, and all nodes of this parent are its children; what
-- replaces it has no more symbols than there are numbers for a code.
pub record IsParent (seed depth : ℕ) (m : Nodes Kept) (root k : ℕ) : Type 0 where
  pub node : Node Kept
  pub is : m k ≡ Some node
  pub deep : node.depth ≡ depth
  pub key : node.key ≡ key_of seed (names m k)
  pub all : AreAllUnder m root k
  pub short : length (kept_successors m k) ≤ number_base

-- parents of one depth, each once, in a forest in which no two nodes of a depth have one lineage
pub record AreParents (seed depth : ℕ) (m : Nodes Kept) (root : ℕ) (ks : List ℕ) : Type 0 where
  pub once : AreOnce (kins m) root
  pub small : AreSmall m
  pub apart : AreApart ks
  pub each : (k : ℕ) → In k ks → IsParent seed depth m root k

-- so it is by some seed and at some depth
abbrev pub HasParents : Nodes Kept → ℕ → List ℕ → Type 0
HasParents m root ks = (seed : ℕ) × (depth : ℕ) × AreParents seed depth m root ks
