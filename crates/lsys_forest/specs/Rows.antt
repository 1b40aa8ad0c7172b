-- The levels of a forest.
use Rattle.std.specs.Prelude.{◌≡◌, ◌≤◌, ℕ, zero, suc, ◌-◌, ◌^◌, true, cond, nat_eq, List, [], ◌∷◌, map, Option, Some, None}
use Rattle.lsys_spec.specs.Rows.{mirrored, flat}
use Rattle.lsys_spec.specs.Levels.{level_balanced}
use Rattle.lsys_level.specs.Spots.{Push, Spotted, IsSpot, level_by}
use Rattle.lsys_forest.specs.declared.walk.Way.{Way}
use Rattle.lsys_forest.specs.declared.walk.Way.TheVariants.{Left, Right}
use Rattle.lsys_forest.specs.Nodes.{Node, Nodes}
use Rattle.lsys_forest.specs.Groves.{Grove, now_of}

-- at which place the number stands first; how many there are, where it is not among them
abbrev pub index_in : ℕ → List ℕ → ℕ
index_in k [] = 0
index_in k (x ∷ xs) = cond (nat_eq k x) 0 (suc (index_in k xs))

-- these, as they come from the left or from the right
abbrev pub oriented : Way → List ℕ → List ℕ
oriented Right xs = xs
oriented Left xs = mirrored xs

-- Of lists of symbols, one for each number: those from number t on, so many at most, up to the first that is not balanced.
abbrev pub complete_from : (ℕ → List Spotted) → ℕ → ℕ → List (List Spotted)
complete_from levels zero t = []
complete_from levels (suc most) t = cond (level_balanced 0 (level_by (λ tag. []) (levels t))) (levels t ∷ complete_from levels most (suc t)) []

module _ {A : Type 0} where
  abbrev pub kids_in : Option (Node A) → List ℕ
  kids_in None = []
  kids_in (Some n) = n.kids

  -- the children of a node, as they come from the left or from the right
  abbrev pub kids_that_way : Way → Nodes A → ℕ → List ℕ
  kids_that_way way m k = oriented way (kids_in (m k))

  -- the children of these nodes, in order
  abbrev pub kids_below : Nodes A → List ℕ → List ℕ
  kids_below m nodes = flat (λ k. kids_in (m k)) nodes

  abbrev pub depth_in : Option (Node A) → ℕ
  depth_in None = 0
  depth_in (Some n) = n.depth

  -- a node as a view tells it: its tag is its number
  abbrev pub spot_in : ℕ → Option (Node A) → Spotted
  spot_in k None = record { seen = Push; tag = k; key = 0 }
  spot_in k (Some n) = record { seen = n.seen; tag = k; key = n.key }

  -- The nodes of a level. Level 0 are the children of the root, and each further level the children of the nodes of the one
  -- before it, in order.
  abbrev pub level_nodes : Nodes A → ℕ → ℕ → List ℕ
  level_nodes m root zero = kids_in (m root)
  level_nodes m root (suc t) = kids_below m (level_nodes m root t)

  -- a level as a view tells it
  abbrev pub level_spots : Nodes A → ℕ → ℕ → List Spotted
  level_spots m root t = map (λ k. spot_in k (m k)) (level_nodes m root t)

  -- the levels that are complete: it and every level before it have balanced brackets; of all that a number of 32 bits names
  unfoldable pub complete_levels : Grove A → List (List Spotted)
  complete_levels f = complete_from (level_spots (now_of f) f.root) (2 ^ 32) 0

  -- the level on which a node is, and its place there
  abbrev pub level_of_node : Grove A → ℕ → ℕ
  level_of_node f k = depth_in (now_of f k) - 1

  -- the nodes of its level
  abbrev pub level_with : Grove A → ℕ → List ℕ
  level_with f k = level_nodes (now_of f) f.root (level_of_node f k)

  abbrev pub place_of_node : Grove A → ℕ → ℕ
  place_of_node f k = index_in k (level_with f k)

  -- the node is a spot of the forest as a view
  abbrev pub IsAtSpot : Grove A → ℕ → Type 0
  IsAtSpot f k = IsSpot (complete_levels f) (level_of_node f k) (place_of_node f k)

  -- it and every level before it have balanced brackets
  abbrev pub AreBalancedTo : Grove A → ℕ → Type 0
  AreBalancedTo f t = (u : ℕ) → u ≤ t → level_balanced 0 (level_by (λ tag. []) (level_spots (now_of f) f.root u)) ≡ true

  -- the node is a spot of this level, at this place
  pub record IsSpotAt (f : Grove A) (t place k : ℕ) : Type 0 where
    pub level_is : level_of_node f k ≡ t
    pub place_is : place_of_node f k ≡ place
    pub spot : IsSpot (complete_levels f) t place
