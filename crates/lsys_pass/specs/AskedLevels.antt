-- Which nodes of a level are asked, where it had no questions at the last rest: those that have one now.
use Rattle.std.specs.Prelude.{◌≡◌, ◌↔◌, ℕ, List, [], ◌∷◌, ◌++◌, Vec}
use Rattle.std.specs.declared.alloc.Global.{Global}
use Rattle.lsys_spec.specs.Rows.{In}
use Rattle.lsys_spec.specs.Systems.{System}
use Rattle.lsys_forest.specs.Groves.{Grove, now_of}
use Rattle.lsys_forest.specs.Rows.{level_nodes}
use Rattle.lsys_front.specs.Candidates.{AsksOn}
use Rattle.lsys_front.specs.Questioned.{AreSome}

-- these are those of a row that are of this kind, in its order
pub record AreThose (kind : ℕ → Type 0) (row these : List ℕ) : Type 0 where
  pub are : (k : ℕ) → In k these ↔ (In k row × kind k)
  pub some : AreSome these row

-- a node was added to a list, if it is of this kind
pub data AddsIf (kind : ℕ → Type 0) (node : ℕ) (old new : List ℕ) : Type 0 where
  added : kind node → new ≡ old ++ node ∷ [] → AddsIf kind node old new
  left_out : (kind node → ⊥) → new ≡ old → AddsIf kind node old new

module _ {A : Type 0} where
  -- these are the nodes of level t that have a question, by its rules in a system
  abbrev pub ListsAsked : System → ℕ → Grove A → List ℕ → Type 0
  ListsAsked s t f asked =
      AreThose (AsksOn s t (now_of f)) (level_nodes (now_of f) f.root t) asked

  -- a node was added if it has one
  abbrev pub AddsIfAsked : System → ℕ → Grove A → ℕ → Vec ℕ Global → Vec ℕ Global → Type 0
  AddsIfAsked s t f node old new = AddsIf (AsksOn s t (now_of f)) node old.items new.items
