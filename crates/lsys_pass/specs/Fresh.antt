-- A level that was just made, and what becomes of it step by step until it is known who is asked on it.
use Rattle.std.specs.Prelude.{◌≡◌, ◌<◌, ◌≤◌, ◌+◌, ◌⊎◌, ℕ, suc, Bool, true, false, map, drop, List, [], length, Some, None, slice_get}
use Rattle.lsys_spec.specs.Rows.{In, AreApart}
use Rattle.lsys_match.specs.Kept.{Kept}
use Rattle.lsys_forest.specs.Rows.{level_nodes}
use Rattle.lsys_reads.specs.Levels.{answer_at}
use Rattle.lsys_reads.specs.Neighbours.{neighbours_on, neighbours_in}
use Rattle.lsys_reads.specs.Seats.{neighbours_at, HasSeat}
use Rattle.lsys_children.specs.Nexts.{Successors, AreClosed, HasWanted, wanted_in}
use Rattle.lsys_children.specs.Answers.{kept_successors}
use Rattle.lsys_children.specs.Renewals.{KeepsDeeper}
use Rattle.lsys_children.specs.declared.parent.Parent.{Parent}
use Rattle.lsys_children.specs.Parents.{nodes_in, AreParents, AreToldBy, cut_parents, uncut}
use Rattle.lsys_front.specs.Repairs.{SteppingSpots}
use Rattle.lsys_front.specs.Found.{Differs, IsFound}
use Rattle.lsys_front.specs.Fronts.{IsLevelFront, MayHaveOthers}
use Rattle.lsys_pass.specs.declared.state.PassState.TheVariants.{Level}
use Rattle.lsys_pass.specs.Sizes.{HaveSizesTo, opens_at, with_level}
use Rattle.lsys_pass.specs.Rests.{AreCountedLow}
use Rattle.lsys_pass.specs.Stages.{Stage, was, Rests}
use Rattle.lsys_pass.specs.Advances.{IsAskedTo, KeepsRest, StaysAbove, Advances, HasLastLevel}
use Rattle.lsys_pass.specs.Passes.{PassView, stage_of, repair_of, AllHaveSeats, IsStill, HasFront, IsPass}
use Rattle.lsys_pass.specs.Passes as P

-- 1. a level that was asked

-- The pass was at level t, of which all was asked, and nothing changed since.
pub record WasAsked (v : PassView) (t : ℕ) : Type 0 where
  pub pass : IsPass (record v { state = Level t })
  pub asked : IsAskedTo (stage_of v) t

-- the nodes of level t
abbrev pub row_of : PassView → ℕ → List ℕ
row_of v t = level_nodes (P.now_in v) v.forest.root t

-- what is wanted of each of them
abbrev pub wanted_on_level : PassView → ℕ → Successors
wanted_on_level v t = wanted_in (P.now_in v) (kept_successors (P.now_in v)) None (row_of v t)

-- a node of the level may have other children than at the last rest
abbrev pub IsChanged : PassView → ℕ → Type 0
IsChanged v k = MayHaveOthers v.front (drop v.first_renewed v.renewed) k

-- The level was not the last one, keys and lineages are the same, and no cut on it reached what stood after it.
pub record IsMadeAlike (v : PassView) (t : ℕ) : Type 0 where
  pub below : t < v.system.depth
  pub seed : v.next.seed ≡ v.system.seed
  pub numbering : v.next.numbering ≡ v.system.numbering
  pub closed : opens_at v.sizes t ≡ false

-- These are parents of level t, and it is told what is wanted of each; all other nodes of the level have the children that are
-- wanted of them.
pub record AreNextParents (v : PassView) (t : ℕ) (ps : List Parent) : Type 0 where
  pub parents : AreParents v.next.seed (t + 1) (P.now_in v) v.forest.root (nodes_in ps)
  pub there : (k : ℕ) → In k (nodes_in ps) → In k (row_of v t)
  pub wants : AreToldBy (wanted_on_level v t) (P.now_in v) ps
  pub others : (k : ℕ) → In k (row_of v t) → In k (nodes_in ps)
      ⊎ HasWanted v.next.numbering v.next.seed (P.now_in v) k (wanted_on_level v t k)

-- They are all nodes of the level, as a walk tells them; or some of them, none of them cut off, where no cut reaches what stands
-- after one of the level.
abbrev pub AreWalkedOrAlone : PassView → ℕ → Bool → List Parent → Type 0
AreWalkedOrAlone v t true ps = ps ≡ cut_parents (P.now_in v) None (row_of v t)
AreWalkedOrAlone v t false ps =
    AreClosed (kept_successors (P.now_in v)) (row_of v t) × (ps ≡ map uncut (nodes_in ps))

-- no cut on the level reaches what stands after it, unless the level is open
abbrev pub IsClosedUnless : PassView → ℕ → Bool → Type 0
IsClosedUnless v t is_open = is_open ≡ false → AreClosed (kept_successors (P.now_in v)) (row_of v t)

-- 2. the next level

-- The last rest stays, and the levels before level t with their answers; what was dropped stays so.
pub record Goes (old new : Stage) (t : ℕ) : Type 0 where
  pub next : new.next ≡ old.next
  pub run : KeepsRest old new
  pub above : StaysAbove old new t
  pub more : (k : ℕ) → In k old.dropped → In k new.dropped

-- What is kept of the levels before level t: which nodes are dropped, and whose seats tell others than stand beside them.
pub record HasListsBefore (s : Stage) (t : ℕ) : Type 0 where
  pub fresh : (k : ℕ) (a : Kept) → answer_at s.now k ≡ Some a
      → In k s.renewed ⊎ (answer_at (was s) k ≡ Some a)
  pub dropped_apart : AreApart s.dropped
  pub dropped_had : (k : ℕ) → In k s.dropped → answer_at (was s) k ≡ None → ⊥
  pub dropped_none : (k u : ℕ) → In k s.dropped → u < t → In k (level_nodes s.now s.root u)
      → answer_at s.now k ≡ None
  pub lost : (k u : ℕ) (a : Kept) → u < t → answer_at (was s) k ≡ Some a
      → In k (level_nodes (was s) s.root u)
      → In k s.dropped ⊎ In k (level_nodes s.now s.root u)
  pub seated : (u p k : ℕ) → u < t → slice_get (level_nodes s.now s.root u) p ≡ Some k
      → In k s.moved
      ⊎ (neighbours_at s.seats k ≡ neighbours_on s.now (level_nodes s.now s.root u) p)
  pub moved_are : (k : ℕ) → In k s.moved
      → (u : ℕ) × (u < t) × In k (level_nodes s.now s.root u)
  pub room : (k : ℕ) → In k s.moved → HasSeat s.seats k

-- those that are dropped stood on levels before level t
abbrev pub AreDroppedBefore : Stage → ℕ → Type 0
AreDroppedBefore s t =
    (k : ℕ) → In k s.dropped → (u : ℕ) × (u < t) × In k (level_nodes (was s) s.root u)

-- The nodes up to level t are the levels of the system that is being made, within the limit; what lies deeper is as it was. The answers
-- on level t are those of the last rest, and new ones stand above it. Each node has a seat.
pub record IsMadeTo (v : PassView) (t : ℕ) : Type 0 where
  pub spots : SteppingSpots (repair_of v t)
  pub within : t ≤ v.next.depth
  pub deeper : KeepsDeeper (P.rest_in v) (P.now_in v) (t + 1)
  pub counts : AreCountedLow (P.now_in v)
  pub answers : (k : ℕ) → In k (row_of v t) → answer_at (P.now_in v) k ≡ answer_at (P.rest_in v) k
  pub renewed_are : (k : ℕ) → In k v.renewed → (u : ℕ) × (u < t) × In k (row_of v u)
  pub faults : v.faults ≡ []
  pub pending : v.pending ≡ []
  pub room : AllHaveSeats (P.now_in v) v.seats

-- Who has other neighbours on level t than its seat tells, or another mate, is among those that were looked at.
pub record WasLookedAt (v : PassView) (t : ℕ) : Type 0 where
  pub looked : (k : ℕ) → In k (row_of v t) → In k (level_nodes (P.rest_in v) v.forest.root t)
      → In k v.front.changes.looked ⊎ (neighbours_in v.forest k ≡ neighbours_at v.seats k)
  pub looked_are : (k : ℕ) → In k v.front.changes.looked → In k (row_of v t)

-- It is known what differs on level t from the last rest. Those that are gone from it keep the answers that they had.
pub record WasJustMade (v : PassView) (t : ℕ) : Type 0 where
  pub made : IsMadeTo v t
  pub lists : HasListsBefore (stage_of v) t
  pub dropped : AreDroppedBefore (stage_of v) t
  pub differs : Differs (repair_of v t) v.front.changes
  pub gone_once : AreApart v.front.changes.gone
  pub gone_keep : (k : ℕ) → In k v.front.changes.gone
      → answer_at (P.now_in v) k ≡ answer_at (P.rest_in v) k
  pub bare : v.front.bare ≡ []
  pub looks : WasLookedAt v t

-- It is known who turned, and who else may have another question, by who read what at the last rest.
pub record HasFound (v : PassView) (t : ℕ) (beside readers : List ℕ) : Type 0 where
  pub rest : Rests (stage_of v)
  pub made : IsMadeTo v t
  pub lists : HasListsBefore (stage_of v) (t + 1)
  pub dropped : AreDroppedBefore (stage_of v) (t + 1)
  pub looks : WasLookedAt v t
  pub front : IsLevelFront (repair_of v t) v.seats v.front
  pub found : IsFound v.forest v.seats v.reads v.front.changes v.front.turned beside readers
  pub first : v.first_renewed ≡ length v.renewed

-- so many symbols the level has that was made
abbrev pub SizesLevel : PassView → PassView → ℕ → Type 0
SizesLevel old new t = new.made ≡ with_level old.made (length (row_of new t))

-- the sizes of the levels up to level t are told, of which it isn't known yet whether it is open
abbrev pub SizesTo : PassView → ℕ → Type 0
SizesTo v t = HaveSizesTo (P.now_in v) v.forest.root v.made t

-- where a level was just made, it is found who turned, and who else may have another question
abbrev pub KnowsTurned : PassView → PassView → List ℕ → List ℕ → Type 0
KnowsTurned old new beside readers = (t : ℕ) → WasJustMade old t → HasFound new t beside readers

-- only seats changed, what is dropped, what moved, and what differs on the level
abbrev pub TurnsOnly : PassView → PassView → Type 0
TurnsOnly old new = new ≡ record old {
  seats = new.seats;
  dropped = new.dropped;
  moved = new.moved;
  front = new.front;
  first_renewed = new.first_renewed;
}

-- it is known who is asked
pub record IsReadyToAsk (v : PassView) (t : ℕ) : Type 0 where
  pub lists : HasListsBefore (stage_of v) (t + 1)
  pub advances : Advances (stage_of v) t
  pub front : HasFront v t

-- or it is the last level
pub record IsLast (v : PassView) (t : ℕ) : Type 0 where
  pub lists : HasListsBefore (stage_of v) (t + 1)
  pub ends : HasLastLevel (stage_of v) t
  pub room : AllHaveSeats (P.now_in v) v.seats

-- 3. where a pass came from that made level t: the level before it, of which all was asked; or the last rest, for the first one
pub data Origin (v : PassView) (t : ℕ) : Type 0 where
  after : (w : PassView) (u : ℕ) → t ≡ suc u → WasAsked w u → Goes (stage_of w) (stage_of v) t
      → Origin v t
  at_first : (w : PassView) → t ≡ 0 → IsStill (stage_of w) → Rests (stage_of w)
      → Goes (record (stage_of w) { next = v.next }) (stage_of v) t → Origin v t
