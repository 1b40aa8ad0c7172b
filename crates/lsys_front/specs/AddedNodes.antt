-- Nodes that were added to a list since they have a question, or other rules.
use Rattle.std.specs.Prelude.{ℕ, List, Vec}
use Rattle.std.specs.declared.alloc.Global.{Global}
use Rattle.lsys_spec.specs.Systems.{System}
use Rattle.lsys_forest.specs.Groves.{Grove, now_of}
use Rattle.lsys_front.specs.Candidates.{AsksOn}
use Rattle.lsys_front.specs.Questioned.{AddsOf}
use Rattle.lsys_front.specs.Others.{RulesOf, IsOtherwise}

module _ {A : Type 0} where
  -- of these nodes those with a question on level t of a system were added
  abbrev pub AddsAsked : System → ℕ → Grove A → List ℕ → Vec ℕ Global → Vec ℕ Global → Type 0
  AddsAsked s t f nodes old new = AddsOf (AsksOn s t (now_of f)) nodes old.items new.items

  -- of these nodes those that are modules with other rules were added
  abbrev pub AddsOthers : RulesOf → Grove A → List ℕ → Vec ℕ Global → Vec ℕ Global → Type 0
  AddsOthers r f nodes old new = AddsOf (IsOtherwise r (now_of f)) nodes old.items new.items
