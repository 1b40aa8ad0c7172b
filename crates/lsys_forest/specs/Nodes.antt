-- Nodes, by their numbers.
use Rattle.std.specs.Prelude.{◌≡◌, ℕ, ℤ, List, [], Option, Some, None, cond, nat_eq, option_map}
use Rattle.lsys_module.specs.Views.{module_name}
use Rattle.lsys_level.specs.Spots.{Seen, Push, Pop, Module}
use Rattle.lsys_forest.specs.declared.node.NodeKind.{NodeKind}
use Rattle.lsys_forest.specs.declared.node.NodeKind.TheVariants as kinds

-- A node: the number of its parent, the code and the count that name it under that one, how many steps it is below the
-- root, its symbol, its key, its children in order, and the answer that it keeps.
pub record Node (A : Type 0) : Type 0 where
  pub parent : ℕ
  pub code : ℕ
  pub count : ℕ
  pub depth : ℕ
  pub seen : Seen
  pub key : ℕ
  pub kids : List ℕ
  pub answer : Option A

-- the root, which has no symbol and no key (a bracket and 0 stand for them), and is its own parent
abbrev pub root_node : {A : Type 0} → ℕ → Node A
root_node root = record { parent = root; code = 0; count = 0; depth = 0; seen = Push; key = 0; kids = []; answer = None }

-- what a symbol is, by its kind and its parameters
abbrev pub seen_as : NodeKind → List ℤ → Seen
seen_as kinds.Push params = Push
seen_as kinds.Pop params = Pop
seen_as (kinds.Module name) params = Module (record { name = module_name name; params = params })

-- the nodes that live, by their numbers
abbrev pub Nodes : Type 0 → Type 0
Nodes A = ℕ → Option (Node A)

module _ {A : Type 0} where
  -- something else stands at a number
  abbrev pub with_node : Nodes A → ℕ → Option (Node A) → Nodes A
  with_node m k v = λ j. cond (nat_eq j k) v (m j)

  -- the node at a number is another one, if it lives
  abbrev pub change : (Node A → Node A) → Nodes A → ℕ → Nodes A
  change f m k = with_node m k (option_map f (m k))

  abbrev pub with_seen : Seen → Node A → Node A
  with_seen x n = record n { seen = x }

  abbrev pub with_key : ℕ → Node A → Node A
  with_key x n = record n { key = x }

  abbrev pub with_kids : List ℕ → Node A → Node A
  with_kids x n = record n { kids = x }

  abbrev pub with_answer : Option A → Node A → Node A
  with_answer x n = record n { answer = x }

  -- a node of this parent, with these names and this symbol, without children and answer
  abbrev pub new_node : ℕ → ℕ → ℕ → ℕ → Seen → ℕ → Node A
  new_node parent code count depth seen key = record {
    parent = parent;
    code = code;
    count = count;
    depth = depth;
    seen = seen;
    key = key;
    kids = [];
    answer = None;
  }

  -- this holds of the node at a number, if one lives there
  abbrev pub ForNode : Nodes A → ℕ → (Node A → Type 0) → Type 0
  ForNode m k IsSo = (n : Node A) → m k ≡ Some n → IsSo n
