-- Answers and children that nodes lose, and the lists after which they come.
use Rattle.std.specs.Prelude.{◌≡◌, ℕ, List, [], ◌++◌, Vec, None, Some}
use Rattle.std.specs.declared.alloc.Global.{Global}
use Rattle.lsys_spec.specs.Rows.{In}
use Rattle.lsys_forest.specs.Nodes.{Node, with_node, with_kids, with_answer}
use Rattle.lsys_forest.specs.Groves.{Grove, IsLive, now_of}
use Rattle.lsys_forest.specs.Rows.{kids_below}
use Rattle.lsys_front.specs.Ends.{answered_in, rows_from}

module _ {A : Type 0} where
  -- the children of these nodes came after a list, in order
  abbrev pub AddsKids : Grove A → List ℕ → Vec ℕ Global → Vec ℕ Global → Type 0
  AddsKids f nodes old new = new.items ≡ old.items ++ kids_below (now_of f) nodes

  -- those of these nodes that keep an answer came after a list
  abbrev pub DropsOf : Grove A → List ℕ → Vec ℕ Global → Vec ℕ Global → Type 0
  DropsOf f nodes old new = new.items ≡ old.items ++ answered_in (now_of f) nodes

  -- and those of the nodes below these, of so many rows
  abbrev pub DropsRows : Grove A → ℕ → List ℕ → Vec ℕ Global → Vec ℕ Global → Type 0
  DropsRows f rows nodes old new =
      new.items ≡ old.items ++ answered_in (now_of f) (rows_from (now_of f) rows nodes)

  -- the node keeps no answer any more, and no other one changed
  abbrev pub LosesAnswer : Grove A → Grove A → ℕ → Type 0
  LosesAnswer old new k =
      (n : Node A) → now_of old k ≡ Some n
      → now_of new ≡ with_node (now_of old) k (Some (with_answer None n))

  -- the node has no children any more, and no other one changed
  abbrev pub LosesChildren : Grove A → Grove A → ℕ → Type 0
  LosesChildren old new k =
      (n : Node A) → now_of old k ≡ Some n
      → now_of new ≡ with_node (now_of old) k (Some (with_kids [] n))

  -- the children of these nodes live
  abbrev pub KidsLive : Grove A → List ℕ → Type 0
  KidsLive f nodes = (k : ℕ) → In k (kids_below (now_of f) nodes) → IsLive f k
