-- The children of some parents, made in a forest.
use Rattle.std.specs.Prelude.{◌≡◌, ◌<◌, ◌^◌, [], ℕ, Bool, List}
use Rattle.lsys_syntax.specs.Commands.{Numbering}
use Rattle.lsys_match.specs.Kept.{Kept}
use Rattle.lsys_forest.specs.Groves.{Grove, AreSound, now_of, rest_of, changes_in, kept_in, live_nodes}
use Rattle.lsys_children.specs.Children.{ToldNodes}
use Rattle.lsys_children.specs.Nexts.{Successors}
use Rattle.lsys_children.specs.Renewals.{AreRenewals}
use Rattle.lsys_children.specs.declared.parent.Parent.{Parent}
use Rattle.lsys_children.specs.Parents.{nodes_in, AreParents, AreToldBy}
use Rattle.lsys_children.specs.Made.{TellsAllOf, gone_of}
use Rattle.lsys_front.specs.Fronts.{Differences, IsToldFirst, IsToldNext, nothing}
use Rattle.lsys_front.specs.LooksFrom.{LooksIfThere, LooksOnlyBelow, first_nodes}
use Rattle.lsys_pass.specs.declared.sizes.Sizes.{Sizes}
use Rattle.lsys_pass.specs.Sizes.{with_level}

-- The last rest stays, and who keeps which answer. The nodes hang together, and each has a number.
pub record KeepsAnswers (old new : Grove Kept) : Type 0 where
  pub rest : rest_of new ≡ rest_of old
  pub root : new.root ≡ old.root
  pub kept : kept_in new ≡ kept_in old
  pub sound : AreSound new.root (changes_in new) (now_of new)
  pub few : live_nodes new < 2 ^ 32

-- The children of these parents were made those that are wanted of them, and it was told what differs.
pub record MakesBelow (g : Numbering) (old new : Grove Kept) (ps : List Parent)
    (told : ToldNodes) : Type 0 where
  pub renewals : (seed depth : ℕ) (by : Successors)
      → AreParents seed depth (now_of old) old.root (nodes_in ps) → AreToldBy by (now_of old) ps
      → AreRenewals g seed (now_of old) (now_of new) old.root depth by (nodes_in ps)
  pub tells : TellsAllOf (now_of old) (now_of new) (nodes_in ps) nothing told
  pub gone : told.gone ≡ gone_of g (now_of old) ps

-- It is told what differs on the next level, by what differs on the one above and what was told when its nodes were made; and who was
-- looked at, if the level was there at the last rest.
pub record IsNextFront (was_there : Bool) (f : Grove Kept) (old : Differences) (made : ToldNodes)
    (new : Differences) : Type 0 where
  pub told : IsToldNext f old made new.changes
  pub looks : LooksIfThere was_there f old made new.changes
  pub below : LooksOnlyBelow f old made new.changes
  pub bare : new.bare ≡ []

-- It is told what differs on the first level.
pub record IsFirstFront {A : Type 0} (f : Grove A) (made : ToldNodes) (new : Differences) : Type 0 where
  pub told : IsToldFirst made new.changes
  pub looked : new.changes.looked ≡ first_nodes f
  pub bare : new.bare ≡ []

-- a level of so many symbols was made
abbrev pub AddsLevel : Sizes → Sizes → ℕ → Type 0
AddsLevel old new n = new.made.items ≡ with_level old.made.items n
