-- The nodes of a last level, and those that were below them.
use Rattle.std.specs.Prelude.{◌≡◌, ◌++◌, ℕ, zero, suc, Bool, List, [], Some, None, is_some, option_map, filter}
use Rattle.std.specs.Option.{option_and_then}
use Rattle.lsys_spec.specs.Rows.{In}
use Rattle.lsys_forest.specs.Nodes.{Node, Nodes, with_kids, with_answer}
use Rattle.lsys_forest.specs.Answers.{answer_of}
use Rattle.lsys_forest.specs.Rows.{kids_below}

module _ {A : Type 0} where
  -- a node without its answer and its children
  abbrev pub ended_node : Node A → Node A
  ended_node n = with_kids [] (with_answer None n)

  -- These nodes keep no answers and have no children any more, and no other node changed.
  pub record AreEnded (old new : Nodes A) (nodes : List ℕ) : Type 0 where
    pub here : (k : ℕ) → In k nodes → new k ≡ option_map ended_node (old k)
    pub others : (k : ℕ) → (In k nodes → ⊥) → new k ≡ old k

  -- the node keeps an answer
  abbrev pub is_answered : Nodes A → ℕ → Bool
  is_answered m k = is_some (option_and_then answer_of (m k))

  -- those of these nodes that keep an answer, in order
  abbrev pub answered_in : Nodes A → List ℕ → List ℕ
  answered_in m nodes = filter (is_answered m) nodes

  -- the nodes that are so many steps below these
  abbrev pub row_below : Nodes A → ℕ → List ℕ → List ℕ
  row_below m zero nodes = nodes
  row_below m (suc n) nodes = row_below m n (kids_below m nodes)

  -- these nodes and those below them, of so many levels together
  abbrev pub rows_from : Nodes A → ℕ → List ℕ → List ℕ
  rows_from m zero nodes = []
  rows_from m (suc n) nodes = nodes ++ rows_from m n (kids_below m nodes)

  -- each of these nodes lives, so many steps below the root
  abbrev pub AreDeep : Nodes A → ℕ → List ℕ → Type 0
  AreDeep m depth nodes =
      (k : ℕ) → In k nodes → (n : Node A) × (m k ≡ Some n) × (n.depth ≡ depth)
