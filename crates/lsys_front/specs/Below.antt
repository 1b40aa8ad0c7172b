-- A level that is being repaired, and what was looked at below it.
use Rattle.std.specs.Prelude.{◌≡◌, ◌⊎◌, ℕ, List, Some, slice_get}
use Rattle.lsys_spec.specs.Rows.{In, flat}
use Rattle.lsys_spec.specs.Levels.{IsLevel}
use Rattle.lsys_laws.specs.Mates.{AgreeOn, AreBalanced}
use Rattle.lsys_forest.specs.Nodes.{Nodes}
use Rattle.lsys_forest.specs.Groves.{Grove, now_of}
use Rattle.lsys_forest.specs.Rows.{kids_in, level_nodes, level_of_node}
use Rattle.lsys_reads.specs.Neighbours.{numbered_level, neighbours_on}
use Rattle.lsys_reads.specs.Looks.{LooksAround, LooksBeyond, LooksAtMate, LooksInto, kind_in}
use Rattle.lsys_front.specs.Generations.{IsLeftLevel}

module _ {A : Type 0} where
  abbrev pub kids_at : Nodes A → ℕ → List ℕ
  kids_at m k = kids_in (m k)

  -- Level t of nodes, and the level of all their children: both are balanced levels, and cuts left the nodes these children.
  pub record AreLeftLevels (m : Nodes A) (root t : ℕ) : Type 0 where
    pub left : IsLeftLevel (kind_in m) (kids_at m) (level_nodes m root t)
    pub level : IsLevel (numbered_level m (level_nodes m root t))
    pub next : IsLevel (numbered_level m (flat (kids_at m) (level_nodes m root t)))
    pub next_balanced : AreBalanced (kind_in m) 0 (flat (kids_at m) (level_nodes m root t))

  -- a node of the level before has the children that it had, and they are of the kinds that they were
  pub record KeepsFamily (o m : Nodes A) (root t q : ℕ) : Type 0 where
    pub there : In q (level_nodes o root t)
    pub list : kids_at m q ≡ kids_at o q
    pub kinds : AgreeOn (kind_in o) (kind_in m) (kids_at o q)

  -- Of the nodes of level t of a forest these are new, or have other children, or children of other kinds; and those are new, or
  -- have another neighbour or another mate. By both it was looked.
  pub record AreLookedBelow (o : Nodes A) (f : Grove A) (t : ℕ)
      (touched turned looked : List ℕ) : Type 0 where
    pub were : AreLeftLevels o f.root t
    pub are : AreLeftLevels (now_of f) f.root t
    pub touched_level : (q : ℕ) → In q touched → level_of_node f q ≡ t
    pub turned_level : (q : ℕ) → In q turned → level_of_node f q ≡ t
    pub families : (q : ℕ) → In q (level_nodes (now_of f) f.root t)
        → In q touched ⊎ KeepsFamily o (now_of f) f.root t q
    pub old : (q : ℕ) → In q (level_nodes (now_of f) f.root t)
        → In q turned ⊎ In q (level_nodes o f.root t)
    pub seats : (p i q : ℕ) → slice_get (level_nodes o f.root t) p ≡ Some q
        → slice_get (level_nodes (now_of f) f.root t) i ≡ Some q
        → In q turned ⊎ (neighbours_on (now_of f) (level_nodes (now_of f) f.root t) i
        ≡ neighbours_on o (level_nodes o f.root t) p)
    pub around : (q : ℕ) → In q touched → LooksAround f q looked
    pub mates : (q : ℕ) → In q touched → LooksAtMate f q looked
    pub beyond : (q : ℕ) → In q turned → LooksBeyond f q looked
    pub branches : (q : ℕ) → In q turned → LooksInto f q looked
