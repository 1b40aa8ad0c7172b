-- What is read from a spot of a view on: the walks of the definitions at that place of that level.
use Rattle.std.specs.Prelude.{◌≡◌, ℕ, ℤ, List, Result, Vec}
use denote.Triple.Both.{Both}
use Rattle.std.specs.declared.alloc.Global.{Global}
use Rattle.lsys_syntax.specs.Calls.{Lent, Shared}
use Rattle.lsys_spec.specs.Levels.{ModuleValue}
use Rattle.lsys_level.specs.declared.view.LevelView.{Ghosts}
use Rattle.lsys_level.specs.Spots.{Spotted, spots_at}
use Rattle.lsys_bodies.specs.declared.body.Pattern.{Pattern}
use Rattle.lsys_bodies.specs.declared.body.Item.{Item}
use Rattle.lsys_bodies.specs.declared.body.Body.{Body}
use Rattle.lsys_bodies.specs.declared.filter.Filter.{Filter}
use Rattle.lsys_walks.specs.declared.mark.Mark.{Mark}
use Rattle.lsys_walks.specs.declared.walked.Walked.{Walked}
use Rattle.lsys_walks.specs.Readings.{Read}
use Rattle.lsys_walks.specs.Walked.{left_told, right_told, inner_told, contexts_told, IsWalk, IsFrontOfWalk, KeptReversed, KeptInOrder, KeptAlone}

-- the level on which a spot stands, and its place there
abbrev pub level_seen : {V S : Type 0} → Ghosts V S → Shared V → S → List Spotted
level_seen W view spot = spots_at (W.levels view.entry.now) (W.level_of view.entry.now spot)

abbrev pub place_seen : {V S : Type 0} → Ghosts V S → Shared V → S → ℕ
place_seen W view spot = W.place_of view.entry.now spot

module _ {V S E F : Type 0} (W : Ghosts V S) (view : Shared V) (spot : S) (filter : Both Filter F) where
  -- a left context was read, and the parameters of the modules that match were added, the last first
  abbrev pub WalksLeft : Mark → List Pattern → Lent Read → Lent (Vec ℤ Global) → Result Walked E → Type 0
  WalksLeft d patterns trace bound r =
      IsWalk (left_told filter.entry d patterns (place_seen W view spot)) (level_seen W view spot) trace.entry.now.read trace.exit.now.read
      (KeptReversed bound.entry.now.items bound.exit.now.items) r

  -- a front of a left context was read before memory was wanting
  abbrev pub BeginsLeftWalk : Mark → List Pattern → Lent Read → Result Walked E → Type 0
  BeginsLeftWalk d patterns trace r =
      IsFrontOfWalk (left_told filter.entry d patterns (place_seen W view spot)) (level_seen W view spot) trace.entry.now.read trace.exit.now.read r

  -- the items from one on were read, and the parameters of the modules that match were added in order
  abbrev pub WalksRight : Mark → List Item → ℕ → Lent Read → Lent (Vec ℤ Global) → Result Walked E → Type 0
  WalksRight d items first trace bound r =
      IsWalk (right_told filter.entry d items first (place_seen W view spot)) (level_seen W view spot) trace.entry.now.read trace.exit.now.read
      (KeptInOrder bound.entry.now.items bound.exit.now.items) r

  -- a front of what the items ask for was read before memory was wanting
  abbrev pub BeginsRightWalk : Mark → List Item → ℕ → Lent Read → Result Walked E → Type 0
  BeginsRightWalk d items first trace r =
      IsFrontOfWalk (right_told filter.entry d items first (place_seen W view spot)) (level_seen W view spot) trace.entry.now.read trace.exit.now.read r

  -- what an item wants was read in the branch that begins here, and the parameters of the modules that match were added in order
  abbrev pub WalksInner : Mark → List Item → ℕ → Lent Read → Lent (Vec ℤ Global) → Result Walked E → Type 0
  WalksInner d items next trace bound r =
      IsWalk (inner_told filter.entry d items next (place_seen W view spot)) (level_seen W view spot) trace.entry.now.read trace.exit.now.read
      (KeptInOrder bound.entry.now.items bound.exit.now.items) r

  -- a front of it was read before memory was wanting
  abbrev pub BeginsInnerWalk : Mark → List Item → ℕ → Lent Read → Result Walked E → Type 0
  BeginsInnerWalk d items next trace r =
      IsFrontOfWalk (inner_told filter.entry d items next (place_seen W view spot)) (level_seen W view spot) trace.entry.now.read trace.exit.now.read r

  -- both contexts of a rule were read at a module with these parameters, and all that match are kept
  abbrev pub WalksContexts : ℕ → Body → List ℤ → Lent Read → Lent (Vec ℤ Global) → Result Walked E → Type 0
  WalksContexts rule body own trace bound r =
      (m : ModuleValue) → m.params ≡ own
      → IsWalk (contexts_told filter.entry rule body m (place_seen W view spot)) (level_seen W view spot) trace.entry.now.read trace.exit.now.read
      (KeptAlone bound.exit.now.items) r

  -- a front of what a rule asks for was read before memory was wanting
  abbrev pub BeginsContexts : ℕ → Body → List ℤ → Lent Read → Result Walked E → Type 0
  BeginsContexts rule body own trace r =
      (m : ModuleValue) → m.params ≡ own
      → IsFrontOfWalk (contexts_told filter.entry rule body m (place_seen W view spot)) (level_seen W view spot) trace.entry.now.read trace.exit.now.read r
