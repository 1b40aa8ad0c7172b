-- The children of a node by their numbers.
use Rattle.std.specs.Prelude.{◌≡◌, ◌&&◌, ◌||◌, ℕ, Bool, false, not, cond, map, nat_eq, List, [], ◌∷◌, Option, Some, None}
use Rattle.lsys_children.specs.declared.number.Number.{Number}
use Rattle.lsys_forest.specs.Nodes.{Node, Nodes}

abbrev pub same_child_number : Number → Number → Bool
same_child_number a b = nat_eq a.code b.code && nat_eq a.count b.count

-- the number is among these
abbrev pub has_number : List Number → Number → Bool
has_number [] q = false
has_number (x ∷ xs) q = same_child_number x q || has_number xs q

-- no number stands twice
abbrev pub AreDifferent : List Number → Type 0
AreDifferent [] = Unit {0}
AreDifferent (x ∷ xs) = (has_number xs x ≡ false) × AreDifferent xs

-- Children that are wanted, matched with the old ones: of each wanted one the old one of its number, if there is one; and the
-- old ones of other numbers.
pub record Matched : Type 0 where
  pub found : List (Option ℕ)
  pub gone : List ℕ

abbrev pub some_or : Option ℕ → Option ℕ → Option ℕ
some_or None o = o
some_or (Some k) o = Some k

module _ {A : Type 0} where
  abbrev pub node_number : Option (Node A) → Number
  node_number None = record { code = 0; count = 0 }
  node_number (Some n) = record { code = n.code; count = n.count }

  -- the number of a node, which with its parent names it
  abbrev pub number_of : Nodes A → ℕ → Number
  number_of m k = node_number (m k)

  -- of these nodes the one that has this number (the last one; children of one parent have it once)
  abbrev pub node_numbered : Nodes A → List ℕ → Number → Option ℕ
  node_numbered m [] q = None
  node_numbered m (k ∷ ks) q =
      some_or (node_numbered m ks q) (cond (same_child_number (number_of m k) q) (Some k) None)

  -- those of these nodes whose number passes the test
  abbrev pub nodes_where : (Number → Bool) → Nodes A → List ℕ → List ℕ
  nodes_where test m [] = []
  nodes_where test m (k ∷ ks) =
      cond (test (number_of m k)) (k ∷ nodes_where test m ks) (nodes_where test m ks)

  -- those whose number is not among these
  abbrev pub nodes_without : Nodes A → List Number → List ℕ → List ℕ
  nodes_without m qs ks = nodes_where (λ q. not (has_number qs q)) m ks

  -- the children of a node matched with numbers
  abbrev pub match_of : Nodes A → List ℕ → List Number → Matched
  match_of m ks qs = record { found = map (node_numbered m ks) qs; gone = nodes_without m qs ks }
