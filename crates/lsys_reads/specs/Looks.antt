-- Who is looked at on the next level: the nodes whose neighbours may be others.
use Rattle.std.specs.Prelude.{◌≡◌, ◌⊎◌, ◌+◌, ◌++◌, ◌∷◌, [], ℕ, List, Some}
use Rattle.lsys_spec.specs.Rows.{In, AreApart, first_in, last_in, flat}
use Rattle.lsys_laws.specs.Seams.{AreTouched, AreTurned, right_of, left_of}
use Rattle.lsys_forest.specs.Groves.{Grove, now_of}
use Rattle.lsys_forest.specs.Rows.{kids_in, kids_below, spot_in, level_nodes, level_of_node, level_with}
use Rattle.lsys_spec.specs.Levels.{LevelSymbol, IsLevel}
use Rattle.lsys_level.specs.Spots.{IsBracket, named}
use Rattle.lsys_laws.specs.Kinds.{BracketKind, kind_of_symbol}
use Rattle.lsys_laws.specs.Mates.{AreBalanced, Generation, next_nodes}
use Rattle.lsys_forest.specs.Nodes.{Nodes}
use Rattle.lsys_reads.specs.Branches.{AreLookedMates}
use Rattle.lsys_reads.specs.Neighbours.{neighbours_in, numbered_level}

module _ {A : Type 0} where
  -- These are among the nodes: the children of a node, the last child of those before it on its level, and the first child of
  -- those after it, where none stands twice there.
  pub record LooksAround (f : Grove A) (q : ℕ) (nodes : List ℕ) : Type 0 where
    pub children : (k : ℕ) → In k (kids_in (now_of f q)) → In k nodes
    pub before : (k : ℕ) (left right : List ℕ) → AreApart (level_with f q) → level_with f q ≡ left ++ q ∷ right → last_in (kids_below (now_of f) left) ≡ Some k → In k nodes
    pub after : (k : ℕ) (left right : List ℕ) → AreApart (level_with f q) → level_with f q ≡ left ++ q ∷ right → first_in (kids_below (now_of f) right) ≡ Some k → In k nodes

  -- the last child of those up to a node, and the first child of those from it on
  pub record LooksBeyond (f : Grove A) (q : ℕ) (nodes : List ℕ) : Type 0 where
    pub up_to : (k : ℕ) (left right : List ℕ) → level_with f q ≡ left ++ q ∷ right → last_in (kids_below (now_of f) (left ++ q ∷ [])) ≡ Some k → In k nodes
    pub from : (k : ℕ) (left right : List ℕ) → level_with f q ≡ left ++ q ∷ right → first_in (kids_below (now_of f) (q ∷ right)) ≡ Some k → In k nodes

  -- the children of a node's mate, if it has one
  pub record LooksAtMate (f : Grove A) (q : ℕ) (nodes : List ℕ) : Type 0 where
    pub mates : (r k : ℕ) → (neighbours_in f q).mate ≡ Some r → In k (kids_in (now_of f r)) → In k nodes

  -- the children of a bracket
  pub record LooksInto (f : Grove A) (q : ℕ) (nodes : List ℕ) : Type 0 where
    pub branch : (k : ℕ) → IsBracket (spot_in q (now_of f q)).seen → In k (kids_in (now_of f q)) → In k nodes

  -- the node stands on level t, and not on another
  pub record IsOnLevelOf (f : Grove A) (t q : ℕ) : Type 0 where
    pub level_is : level_of_node f q ≡ t
    pub among : In q (level_nodes (now_of f) f.root t)

  -- each of the new ones is one of the old ones, or a node of the level below level t
  abbrev pub AddsBelow : Grove A → ℕ → List ℕ → List ℕ → Type 0
  AddsBelow f t old new =
      (k : ℕ) → In k new → In k old ⊎ In k (level_nodes (now_of f) f.root (t + 1))

  abbrev pub kids_of : Grove A → ℕ → List ℕ
  kids_of f k = kids_in (now_of f k)

  -- What was looked at below level t of a forest, where the nodes of that level were xs before, with the children `own`. Of
  -- those that are there now, these are new or have other children; and the turned ones have another neighbour.
  pub record AreLooked (f : Grove A) (t : ℕ) (own : ℕ → List ℕ) (xs touched turned looked : List ℕ) : Type 0 where
    pub touched_level : (q : ℕ) → In q touched → level_of_node f q ≡ t
    pub turned_level : (q : ℕ) → In q turned → level_of_node f q ≡ t
    pub changed : AreTouched touched own (kids_of f) xs (level_nodes (now_of f) f.root t)
    pub around : (q : ℕ) → In q touched → LooksAround f q looked
    pub beyond : (q : ℕ) → In q turned → LooksBeyond f q looked

  -- the level below
  abbrev pub kids_of_level : Grove A → ℕ → List ℕ
  kids_of_level f t = flat (kids_of f) (level_nodes (now_of f) f.root t)

  -- the symbol of a node, whose lineage is its number alone, and its kind
  abbrev pub numbered_symbol : Nodes A → ℕ → LevelSymbol
  numbered_symbol m k = named (λ k. k ∷ []) (spot_in k (m k))

  abbrev pub kind_in : Nodes A → ℕ → BracketKind
  kind_in m k = kind_of_symbol (numbered_symbol m k)

  -- The level below level t of a forest, where it was `own` of the nodes xs before: the nodes and their mates were looked at as told,
  -- by generations whose next levels these are.
  pub record AreLookedSeats (o : Nodes A) (f : Grove A) (t : ℕ) (own : ℕ → List ℕ) (xs : List ℕ) (old new : Generation) (touched turned looked : List ℕ) : Type 0 where
    pub nodes : AreLooked f t own xs touched turned looked
    pub right : AreTurned right_of turned xs (level_nodes (now_of f) f.root t)
    pub left : AreTurned left_of turned xs (level_nodes (now_of f) f.root t)
    pub mates : AreLookedMates old new touched turned looked
    pub old_next : next_nodes old ≡ flat own xs
    pub new_next : next_nodes new ≡ kids_of_level f t
    pub old_kinds : old.kind ≡ kind_in o
    pub new_kinds : new.kind ≡ kind_in (now_of f)
    pub old_level : IsLevel (numbered_level o (flat own xs))
    pub new_level : IsLevel (numbered_level (now_of f) (kids_of_level f t))
    pub old_balanced : AreBalanced old.kind 0 (next_nodes old)
