-- Nodes whose children are the wanted ones.
use Rattle.std.specs.Prelude.{◌≡◌, ◌+◌, ℕ, ℤ, false, Option, Some, None, Ok, Err, List, [], ◌∷◌, ◌++◌, length, map, nat_eq, slice_get, sum_by, if◌then◌else◌}
use Rattle.lsys_spec.specs.Rows.{In}
use Rattle.lsys_syntax.specs.Commands.{Numbering}
use Rattle.lsys_syntax.specs.Strings as S
use Rattle.lsys_spec.specs.Draws.{key_of}
use Rattle.lsys_spec.specs.Systems.{System, WellSpelled}
use Rattle.lsys_spec.specs.Levels as L
use Rattle.lsys_spec.specs.Choice.{Fault}
use Rattle.lsys_spec.specs.Cuts.{cut}
use Rattle.lsys_spec.specs.Meaning.{children, meaning_to, replacement}
use Rattle.lsys_laws.specs.Kinds.{BracketKind, Opens, Closes, Neither, stays, reached}
use Rattle.lsys_laws.specs.Children.{is_open}
use Rattle.lsys_laws.specs.Nodes.{AreOnce}
use Rattle.lsys_level.specs.Spots.{named}
use Rattle.lsys_forest.specs.Nodes.{Nodes}
use Rattle.lsys_forest.specs.Changes.{Change}
use Rattle.lsys_forest.specs.Groves.{IsRooted}
use Rattle.lsys_forest.specs.Rows.{kids_in, spot_in, level_nodes}
use Rattle.lsys_children.specs.Children.{bracket_kind}
use Rattle.lsys_reads.specs.Lineages.{kins, names}
use Rattle.lsys_reads.specs.Levels.{level_of, HaveLevels}
use Rattle.lsys_reads.specs.Meant.{meant_to}
use Rattle.lsys_match.specs.Kept.{Kept}

-- what replaces each node
abbrev pub Successors : Type 0
Successors = ℕ → List (S.Symbol ℤ)

-- what a node's successor wants of it, after what is being cut off: nothing where its children are cut off
abbrev pub wanted_after : Option ℕ → BracketKind → List (S.Symbol ℤ) → List (S.Symbol ℤ)
wanted_after o kind zs = if stays o kind then zs else []

-- no cut reaches what stands after the children of one of them
abbrev pub AreClosed : Successors → List ℕ → Type 0
AreClosed by [] = Unit {0}
AreClosed by (k ∷ ks) = (is_open (by k) ≡ false) × AreClosed by ks

-- how many children a successor wants
abbrev pub wanted_count : Numbering → List (S.Symbol ℤ) → ℕ
wanted_count g zs = length (cut (children g [] zs))

-- a module is one more
abbrev pub count_kind : BracketKind → ℕ → ℕ
count_kind Neither n = n + 1
count_kind Opens n = n
count_kind Closes n = n

module _ {A : Type 0} where
  -- a node as a symbol of its level, and its kind
  abbrev pub node_symbol : Nodes A → ℕ → L.LevelSymbol
  node_symbol m k = named (names m) (spot_in k (m k))

  abbrev pub node_kind : Nodes A → ℕ → BracketKind
  node_kind m k = bracket_kind (spot_in k (m k)).seen

  abbrev pub node_key : Nodes A → ℕ → ℕ
  node_key m k = (spot_in k (m k)).key

  -- The children of a node are those that a successor wants of it, with the keys of their lineages.
  pub record HasWanted (g : Numbering) (seed : ℕ) (m : Nodes A) (k : ℕ)
      (zs : List (S.Symbol ℤ)) : Type 0 where
    pub symbols : map (node_symbol m) (kids_in (m k)) ≡ cut (children g (names m k) zs)
    pub keys : (j : ℕ) → In j (kids_in (m k)) → node_key m j ≡ key_of seed (names m j)

  -- a node has the children that it had, with the symbols and the keys that they had
  pub record AreSameChildren (old new : Nodes A) (k : ℕ) : Type 0 where
    pub list : kids_in (new k) ≡ kids_in (old k)
    pub spots : (j : ℕ) → In j (kids_in (old k)) → spot_in j (new j) ≡ spot_in j (old j)

  -- Of these nodes of a level, after what is being cut off, each has the children that its successor wants of it.
  abbrev pub HaveWanted : Numbering → ℕ → Nodes A → Successors → Option ℕ → List ℕ → Type 0
  HaveWanted g seed m by o [] = Unit {0}
  HaveWanted g seed m by o (k ∷ ks) =
      HasWanted g seed m k (wanted_after o (node_kind m k) (by k))
      × HaveWanted g seed m by (reached o (node_kind m k) (is_open (by k))) ks

  -- what a walk of these nodes finds to be wanted of one of them
  abbrev pub wanted_in : Nodes A → Successors → Option ℕ → List ℕ → Successors
  wanted_in m by o [] k = []
  wanted_in m by o (j ∷ js) k =
      if nat_eq k j then wanted_after o (node_kind m j) (by j)
      else wanted_in m by (reached o (node_kind m j) (is_open (by j))) js k

  -- how many children all of them want
  abbrev pub count_wanted : Numbering → Nodes A → Successors → List ℕ → ℕ
  count_wanted g m by ks = sum_by (λ k. wanted_count g (wanted_in m by None ks k)) ks

  -- how many of them are modules
  abbrev pub module_nodes : Nodes A → List ℕ → ℕ
  module_nodes m [] = 0
  module_nodes m (k ∷ ks) = count_kind (node_kind m k) (module_nodes m ks)

-- The nodes hang together and are the system's levels up to level n, with their keys; no two of a depth have one lineage.
pub record AreLevels (s : System) (limit n : ℕ) (m : Nodes Kept) (root : ℕ) : Type 0 where
  pub spelled : WellSpelled s
  pub is : meaning_to s limit n ≡ Ok (meant_to s limit n)
  pub levels : HaveLevels m root s.seed (meant_to s limit n)
  pub once : AreOnce (kins m) root
  pub changes : List (Change Kept)
  pub sound : IsRooted root changes m

-- The nodes up to level t are the system's levels, with their keys, and it is told what replaces each node of level t.
pub record HaveSuccessors (s : System) (limit t : ℕ) (m : Nodes Kept) (root : ℕ)
    (by : Successors) : Type 0 where
  pub spelled : WellSpelled s
  pub is : meaning_to s limit t ≡ Ok (meant_to s limit t)
  pub levels : HaveLevels m root s.seed (meant_to s limit t)
  pub replaced : (p k : ℕ) → slice_get (level_nodes m root t) p ≡ Some k
      → replacement s t (level_of m root t) p (node_symbol m k) ≡ Ok (by k)

-- And each of these has the children that its successor wants of it.
pub record HaveNext (s : System) (limit t : ℕ) (m : Nodes Kept) (root : ℕ)
    (by : Successors) : Type 0 where
  pub level : HaveSuccessors s limit t m root by
  pub children : HaveWanted s.numbering s.seed m by None (level_nodes m root t)

-- The nodes up to level t are the system's levels. Of those of level t the node k, after these and before those, is the
-- first whose module has a fault, and each before it has its successor.
pub record HasFirstFault (s : System) (limit t : ℕ) (m : Nodes Kept) (root : ℕ) (by : Successors)
    (before : List ℕ) (k : ℕ) (after : List ℕ) (fault : Fault) : Type 0 where
  pub spelled : WellSpelled s
  pub is : meaning_to s limit t ≡ Ok (meant_to s limit t)
  pub levels : HaveLevels m root s.seed (meant_to s limit t)
  pub level : level_nodes m root t ≡ before ++ k ∷ after
  pub replaced : (p j : ℕ) → slice_get before p ≡ Some j
      → replacement s t (level_of m root t) p (node_symbol m j) ≡ Ok (by j)
  pub faulty : replacement s t (level_of m root t) (length before) (node_symbol m k) ≡ Err fault
