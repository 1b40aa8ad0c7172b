-- Who stands beside a node of a forest's level, and which bracket is its mate.
use Rattle.std.specs.Prelude.{ℕ, ◌+◌, List, ◌∷◌, [], Option, slice_get}
use Rattle.std.specs.Option.{option_and_then}
use Rattle.lsys_spec.specs.Rows.{first_in}
use Rattle.lsys_spec.specs.Levels as L
use Rattle.lsys_spec.specs.Standings.{mate_at}
use Rattle.lsys_level.specs.Spots.{IsSpot}
use Rattle.lsys_laws.specs.Seams.{node_before}
use Rattle.lsys_forest.specs.Nodes.{Nodes}
use Rattle.lsys_forest.specs.Groves.{Grove, now_of}
use Rattle.lsys_forest.specs.Rows.{level_nodes, complete_levels, level_of_node, place_of_node}
use Rattle.lsys_forest.specs.Mates.{seen_level}

-- of a node, by their numbers: its left and its right neighbour, and its mate, where it has one
pub record Neighbours : Type 0 where
  pub left : Option ℕ
  pub right : Option ℕ
  pub mate : Option ℕ

module _ {A : Type 0} where
  -- these nodes as a level in which the lineage of each is its number alone
  abbrev pub numbered_level : Nodes A → List ℕ → List L.LevelSymbol
  numbered_level m xs = seen_level (λ k. k ∷ []) m xs

  -- the mate of the node at a place of a level: that of its symbol, by the definitions
  abbrev pub mate_on : Nodes A → List ℕ → ℕ → Option ℕ
  mate_on m xs p =
      option_and_then first_in
      (mate_at (numbered_level m xs) p (slice_get (numbered_level m xs) p))

  -- the neighbours of the node at a place of a level
  abbrev pub neighbours_on : Nodes A → List ℕ → ℕ → Neighbours
  neighbours_on m xs p = record {
    left = node_before xs p;
    right = slice_get xs (p + 1);
    mate = mate_on m xs p;
  }

  -- the nodes of the level on which a node is
  abbrev pub level_around : Grove A → ℕ → List ℕ
  level_around f k = level_nodes (now_of f) f.root (level_of_node f k)

  -- the neighbours that a node of a forest has
  abbrev pub neighbours_in : Grove A → ℕ → Neighbours
  neighbours_in f k = neighbours_on (now_of f) (level_around f k) (place_of_node f k)

  -- the node stands on a complete level
  abbrev pub IsOnLevel : Grove A → ℕ → Type 0
  IsOnLevel f k = IsSpot (complete_levels f) (level_of_node f k) (place_of_node f k)
