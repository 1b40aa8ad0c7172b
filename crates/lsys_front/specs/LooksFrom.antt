-- Where it is looked on the next level, by what differs on this one.
use Rattle.std.specs.Prelude.{ℕ, Bool, List, [], ◌++◌, Vec, IsTrue}
use Rattle.std.specs.declared.alloc.Global.{Global}
use Rattle.lsys_forest.specs.Groves.{Grove, now_of}
use Rattle.lsys_forest.specs.Rows.{level_nodes}
use Rattle.lsys_children.specs.Children.{ToldNodes}
use Rattle.lsys_reads.specs.Looks.{AddsBelow}
use Rattle.lsys_front.specs.Found.{LevelChanges}
use Rattle.lsys_front.specs.Fronts.{Differences, StandOn, LooksBelow}

-- the nodes that came or turned
abbrev pub moved_in : Differences → List ℕ
moved_in d = d.changes.came ++ d.turned

module _ {A : Type 0} where
  -- the nodes of the first level
  abbrev pub first_nodes : Grove A → List ℕ
  first_nodes f = level_nodes (now_of f) f.root 0

  -- it was looked below the touched nodes and those that came, and below those that came or turned
  abbrev pub LooksFrom : Grove A → Differences → List ℕ → List ℕ → Type 0
  LooksFrom f d touched looked = LooksBelow f (touched ++ d.changes.came) (moved_in d) looked

  -- So it was, if the next level was there at the last rest; else no node of it can have other neighbours than then.
  abbrev pub LooksIfThere : Bool → Grove A → Differences → ToldNodes → LevelChanges → Type 0
  LooksIfThere was_there f d told next = IsTrue was_there → LooksFrom f d told.touched next.looked

  -- only nodes of the next level were added
  abbrev pub AddsBelowThem : Grove A → Differences → List ℕ → Vec ℕ Global → Vec ℕ Global → Type 0
  AddsBelowThem f d touched old new =
      (t : ℕ) → StandOn f t (touched ++ moved_in d) → AddsBelow f t old.items new.items

  -- it was looked at nodes of the next level alone
  abbrev pub LooksOnlyBelow : Grove A → Differences → ToldNodes → LevelChanges → Type 0
  LooksOnlyBelow f d told next =
      (t : ℕ) → StandOn f t (told.touched ++ moved_in d) → AddsBelow f t [] next.looked
