-- Nodes that are found by their numbers.
use Rattle.std.specs.Prelude.{◌≡◌, ℕ, Bool, List, [], ◌∷◌, Option, None, cond, is_some, map, not}
use Rattle.std.specs.HashMap.{HashMap, get}
use Rattle.lsys_forest.specs.Groves.{Grove, now_of}
use Rattle.lsys_children.specs.declared.child.Child.{Child}
use Rattle.lsys_children.specs.declared.number.Number.{Number}
use Rattle.lsys_children.specs.Matches.{has_number, node_numbered, nodes_where, same_child_number}
use Rattle.lsys_children.specs.Children.{numbers_of}

module _ {S : Type 0} where
  -- this node, or none, has a number, and others have theirs
  abbrev pub SetsNumber : HashMap Number ℕ S → HashMap Number ℕ S → Number → Option ℕ → Type 0
  SetsNumber old new number o =
      (q : Number) → get same_child_number new q ≡ cond (same_child_number number q) o (get same_child_number old q)

  -- these numbers are taken out, and others stay
  abbrev pub TakesOut : HashMap Number ℕ S → HashMap Number ℕ S → List Number → Type 0
  TakesOut old new numbers =
      (q : Number)
      → get same_child_number new q ≡ cond (has_number numbers q) None (get same_child_number old q)

  -- of each child that is wanted the node that has its number, if there is one
  abbrev pub nodes_found : HashMap Number ℕ S → List Child → List (Option ℕ)
  nodes_found nodes wanted = map (get same_child_number nodes) (numbers_of wanted)

  -- a node has this number
  abbrev pub is_left : HashMap Number ℕ S → Number → Bool
  is_left nodes q = is_some (get same_child_number nodes q)

  -- of these nodes those whose numbers are left
  abbrev pub kids_remaining : {A : Type 0} → HashMap Number ℕ S → Grove A → List ℕ → List ℕ
  kids_remaining nodes f kids = nodes_where (λ q. is_left nodes q) (now_of f) kids

  -- this node, where its number is left
  abbrev pub node_if_left : HashMap Number ℕ S → Number → ℕ → List ℕ
  node_if_left nodes number node = cond (is_left nodes number) (node ∷ []) []

  -- just these nodes are found by their numbers
  abbrev pub HoldsKids : {A : Type 0} → HashMap Number ℕ S → Grove A → List ℕ → Type 0
  HoldsKids nodes f kids =
      (q : Number) → get same_child_number nodes q ≡ node_numbered (now_of f) kids q

-- this node, where no child that is wanted has its number
abbrev pub node_if_unwanted : List Child → Number → ℕ → List ℕ
node_if_unwanted wanted number node = cond (not (has_number (numbers_of wanted) number)) (node ∷ []) []
