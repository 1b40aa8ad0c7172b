-- Which answers a call takes that is lent a forest, told of the parameters that it is lent.
use Rattle.std.specs.Prelude.{◌++◌, ℕ, List, Vec}
use Rattle.std.specs.declared.alloc.Global.{Global}
use Rattle.lsys_syntax.specs.Calls.{Lent}
use Rattle.lsys_spec.specs.Systems.{System}
use Rattle.lsys_forest.specs.Groves.{Grove, now_of}
use Rattle.lsys_front.specs.Asks.{Loses}
use Rattle.lsys_front.specs.Fronts.{Differences}

module _ {A : Type 0} where
  -- these nodes lost their answers if they are idle, and were added to both lists
  abbrev pub LosesIn : System → ℕ → Lent (Grove A) → List ℕ → Lent (Vec ℕ Global)
      → Lent (Vec ℕ Global) → Type 0
  LosesIn s t forest nodes bare dropped =
      Loses s t (now_of forest.entry.now) (now_of forest.exit.now) nodes
      bare.entry.now.items bare.exit.now.items dropped.entry.now.items dropped.exit.now.items

  -- likewise those that changed and others, of which the front keeps the list
  abbrev pub LosesBoth : System → ℕ → Lent (Grove A) → Lent Differences → List ℕ
      → Lent (Vec ℕ Global) → Type 0
  LosesBoth s t forest front others dropped =
      Loses s t (now_of forest.entry.now) (now_of forest.exit.now)
      (front.entry.now.changes.changed ++ others)
      front.entry.now.bare front.exit.now.bare dropped.entry.now.items dropped.exit.now.items
