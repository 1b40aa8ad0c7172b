-- How a node stands beside others, in an old level and in a new one, told by the numbers of its neighbours and its mate.
use Rattle.std.specs.Prelude.{◌≡◌, ◌+◌, ℕ, true, List, map, flat_map, Option, Some, None, slice_get}
use Rattle.lsys_spec.specs.Rows.{In}
use Rattle.lsys_spec.specs.Systems.{System, Each}
use Rattle.lsys_spec.specs.Levels.{ModuleValue, LevelSymbol, Module, lineage, AreMates, IsLevel}
use Rattle.lsys_spec.specs.Walks.{Entry, lineages_named}
use Rattle.lsys_laws.specs.Passes.{AreMeantTo}
use Rattle.lsys_laws.specs.Groups.{has_same_rules}
use Rattle.lsys_laws.specs.Seams.{right_of, left_of, node_before}

-- a level's nodes in order, and of each its symbol, and the number of its mate, if it is a bracket
pub record Seating : Type 0 where
  pub nodes : List ℕ
  pub symbol : ℕ → LevelSymbol
  pub mate : ℕ → Option ℕ

-- the level
abbrev pub seated : Seating → List LevelSymbol
seated s = map s.symbol s.nodes

-- The nodes are a level, of the lineages that these names tell, and the mates are its mates.
pub record IsSeating (name : ℕ → List ℕ) (s : Seating) : Type 0 where
  pub level : IsLevel (seated s)
  pub names : (k : ℕ) → In k s.nodes → lineage (s.symbol k) ≡ name k
  pub opens : (p q j k : ℕ) → AreMates (seated s) p q
      → slice_get s.nodes p ≡ Some j → slice_get s.nodes q ≡ Some k → s.mate j ≡ Some k
  pub closes : (p q j k : ℕ) → AreMates (seated s) p q
      → slice_get s.nodes p ≡ Some j → slice_get s.nodes q ≡ Some k → s.mate k ≡ Some j
  pub modules : (k : ℕ) (l : List ℕ) (m : ModuleValue) → In k s.nodes
      → s.symbol k ≡ Module l m → s.mate k ≡ None

-- two seatings of nodes with these names; nodes of the one and of the other that have one name are one node
pub record AreSeatings (name : ℕ → List ℕ) (old new : Seating) : Type 0 where
  pub before : IsSeating name old
  pub after : IsSeating name new
  pub apart : (i j : ℕ) → In i new.nodes → In j old.nodes → name i ≡ name j → i ≡ j

-- The node at place p of the old level and q of the new one has the same symbol, the same neighbours with the same symbols,
-- and the same mate.
pub record IsSameSeat (old new : Seating) (p q k : ℕ) : Type 0 where
  pub symbol : new.symbol k ≡ old.symbol k
  pub left : node_before new.nodes q ≡ node_before old.nodes p
  pub left_symbol : (j : ℕ) → node_before old.nodes p ≡ Some j → new.symbol j ≡ old.symbol j
  pub right : slice_get new.nodes (q + 1) ≡ slice_get old.nodes (p + 1)
  pub right_symbol : (j : ℕ) → slice_get old.nodes (p + 1) ≡ Some j → new.symbol j ≡ old.symbol j
  pub mate : new.mate k ≡ old.mate k

-- the node stands in the new level as in the old one
pub record StandsStill (old new : Seating) (k : ℕ) : Type 0 where
  pub old_place : ℕ
  pub new_place : ℕ
  pub was_there : slice_get old.nodes old_place ≡ Some k
  pub is_there : slice_get new.nodes new_place ≡ Some k
  pub same : IsSameSeat old new old_place new_place k

-- the node has the symbol that it had, and its neighbours have those that they had
pub record AreSameSymbols (old new : Seating) (k : ℕ) : Type 0 where
  pub own : new.symbol k ≡ old.symbol k
  pub left : (j : ℕ) → left_of k new.nodes ≡ Some j → new.symbol j ≡ old.symbol j
  pub right : (j : ℕ) → right_of k new.nodes ≡ Some j → new.symbol j ≡ old.symbol j

-- the seatings of level t, where the old system means the levels xs, and the new one the levels ys up to this
pub record AreLevelSeatings (old new : System) (xs ys : List (List LevelSymbol)) (t : ℕ)
    (name : ℕ → List ℕ) (was are : Seating) : Type 0 where
  pub meant : AreMeantTo old new xs ys t
  pub seatings : AreSeatings name was are
  pub old_level : slice_get xs t ≡ Some (seated was)
  pub new_level : slice_get ys t ≡ Some (seated are)

-- the entries name these nodes, and no others
pub record AreNodesRead (name : ℕ → List ℕ) (nodes reads : List ℕ) (es : List Entry) : Type 0 where
  pub named : flat_map lineages_named es ≡ map name reads
  pub there : Each (λ r. In r nodes) reads

-- The node and those that its answer read stand still, and its module has the same rules.
pub record IsUntouchedNode (old new : System) (t : ℕ) (was are : Seating) (k : ℕ)
    (l : List ℕ) (m : ModuleValue) (reads : List ℕ) : Type 0 where
  pub own : StandsStill was are k
  pub read : Each (StandsStill was are) reads
  pub rules : has_same_rules old new t l m ≡ true
