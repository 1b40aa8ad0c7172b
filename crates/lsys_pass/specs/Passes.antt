-- What a contract sees of a pass, and what holds of it between calls.
use Rattle.std.specs.Prelude.{◌≡◌, Some, None, IsSome, ◌<◌, ◌≤◌, ◌^◌, ℕ, Bool, false, List, [], length, take, drop}
use Rattle.lsys_spec.specs.Rows.{In}
use Rattle.lsys_spec.specs.Systems.{System}
use Rattle.lsys_spec.specs.Questions.{questions}
use Rattle.lsys_walks.specs.Stores.{Store}
use Rattle.lsys_match.specs.Kept.{Kept}
use Rattle.lsys_reads.specs.Relations.{Relations}
use Rattle.lsys_forest.specs.Nodes.{Node, Nodes}
use Rattle.lsys_forest.specs.Groves.{Grove, now_of, rest_of, changes_in, live_nodes}
use Rattle.lsys_forest.specs.Rows.{level_nodes}
use Rattle.lsys_reads.specs.Names.{RunName, run_in, holds}
use Rattle.lsys_reads.specs.Levels.{answer_at}
use Rattle.lsys_reads.specs.Meant.{levels_meant}
use Rattle.lsys_reads.specs.declared.seat.Seat.{Seat}
use Rattle.lsys_reads.specs.Seats.{is_marked, HasSeat}
use Rattle.lsys_front.specs.Repairs.{Repair}
use Rattle.lsys_front.specs.Fronts.{Differences, IsLevelFront}
use Rattle.lsys_pass.specs.declared.state.PassState.{PassState}
use Rattle.lsys_pass.specs.declared.state.PassState.TheVariants.{Rest, Level, Done, Failed}
use Rattle.lsys_pass.specs.declared.fault.Faulted.{Faulted}
use Rattle.lsys_pass.specs.declared.sizes.Size.{Size}
use Rattle.lsys_pass.specs.Sizes.{HaveSizes, SizesAt}
use Rattle.lsys_pass.specs.Stages.{Stage, IsStored, RestsAs, Rests, IsAtLevel, IsDone}

-- A pass: the forest, the store of its answers, and who read what, and whether that is listed; the seats of the last rest; the
-- sizes of its levels, and of those that were made since; the system of the last rest, and the
-- one that is being made, which at rest is the same; the limit, and where the pass stands. Then the lists of a stage, and where
-- among those with another answer the nodes of its level begin; what differs on that level; and how many questions the system of
-- the last rest has.
pub record PassView : Type 0 where
  pub forest : Grove Kept
  pub store : Store
  pub reads : Relations
  pub listed : Bool
  pub seats : List Seat
  pub sizes : List Size
  pub made : List Size
  pub system : System
  pub next : System
  pub limit : ℕ
  pub state : PassState
  pub pending : List ℕ
  pub faults : List Faulted
  pub renewed : List ℕ
  pub born : ℕ
  pub first_renewed : ℕ
  pub dropped : List ℕ
  pub moved : List ℕ
  pub front : Differences
  pub answers : ℕ

abbrev pub stage_of : PassView → Stage
stage_of v = record {
  now = now_of v.forest;
  changes = changes_in v.forest;
  root = v.forest.root;
  store = v.store;
  reads = v.reads;
  listed = v.listed;
  seats = v.seats;
  system = v.system;
  next = v.next;
  limit = v.limit;
  pending = v.pending;
  faults = v.faults;
  renewed = v.renewed;
  born = v.born;
  dropped = v.dropped;
  moved = v.moved;
}

-- the nodes as they are, and those of the last rest
abbrev pub now_in : PassView → Nodes Kept
now_in v = now_of v.forest

-- each node keeps the answer that it has, or keeps none
abbrev pub AnswersStay : PassView → PassView → Type 0
AnswersStay old new = (k : ℕ) → answer_at (now_in new) k ≡ answer_at (now_in old) k

abbrev pub rest_in : PassView → Nodes Kept
rest_in v = rest_of v.forest

-- The runs of a store that are live are those that answers of nodes hold.
pub record AreOwnRuns (m : Nodes Kept) (store : Store) : Type 0 where
  pub live : (k : ℕ) (a : Kept) (r : RunName) → answer_at m k ≡ Some a → holds a r
      → IsSome (run_in store r)
  pub only : (r : RunName) → ((k : ℕ) (a : Kept) → answer_at m k ≡ Some a → holds a r → ⊥)
      → run_in store r ≡ None

abbrev pub HasOwnRuns : PassView → Type 0
HasOwnRuns v = AreOwnRuns (now_in v) v.store

-- nothing has changed since the last rest, and nothing is kept of an edit, nor any run that no answer holds
pub record IsStill (s : Stage) : Type 0 where
  pub rest : RestsAs s.listed s
  pub runs : AreOwnRuns s.now s.store
  pub changes : s.changes ≡ []
  pub next : s.next ≡ s.system
  pub reads : s.reads.pending ≡ []
  pub pending : s.pending ≡ []
  pub faults : s.faults ≡ []
  pub renewed : s.renewed ≡ []
  pub born : s.born ≡ 0
  pub dropped : s.dropped ≡ []
  pub moved : s.moved ≡ []

-- what holds where it stands
abbrev pub HoldsAt : Stage → PassState → Type 0
HoldsAt s Rest = IsStill s
HoldsAt s (Level t) = IsAtLevel s t
HoldsAt s Done = IsDone s
HoldsAt s Failed = Rests s

-- the repair of level t
abbrev pub repair_of : PassView → ℕ → Repair
repair_of v t = record {
  old = v.system;
  new = v.next;
  limit = v.limit;
  level = t;
  forest = v.forest;
  store = v.store;
}

-- each node that lives has a seat
abbrev pub AllHaveSeats : Nodes Kept → List Seat → Type 0
AllHaveSeats m seats = (k : ℕ) (n : Node Kept) → m k ≡ Some n → HasSeat seats k

-- It is told what differs on level t, which was made last. Of the nodes with another answer those of the levels above it come first,
-- and then its own.
pub record HasFront (v : PassView) (t : ℕ) : Type 0 where
  pub front : IsLevelFront (repair_of v t) v.seats v.front
  pub within : v.first_renewed ≤ length v.renewed
  pub before : (k : ℕ) → In k (take v.first_renewed v.renewed)
      → (u : ℕ) × (u < t) × In k (level_nodes (now_in v) v.forest.root u)
  pub here : (k : ℕ) → In k (drop v.first_renewed v.renewed)
      → In k (level_nodes (now_in v) v.forest.root t)
  pub room : AllHaveSeats (now_in v) v.seats

-- what is told where it stands
abbrev pub FrontAt : PassView → PassState → Type 0
FrontAt v Rest = Unit {0}
FrontAt v (Level t) = HasFront v t
FrontAt v Done = AllHaveSeats (now_in v) v.seats
FrontAt v Failed = Unit {0}

-- what holds between calls; no node is marked then
pub record IsPass (v : PassView) : Type 0 where
  pub stored : IsStored (now_in v) (changes_in v.forest) v.forest.root v.store
  pub few : live_nodes v.forest < 2 ^ 32
  pub unmarked : (k : ℕ) → is_marked v.seats k ≡ false
  pub counted : v.answers ≡ length (questions v.system (levels_meant v.system v.limit))
  pub sized : HaveSizes (rest_in v) v.forest.root v.sizes
  pub made_sized : SizesAt (now_in v) v.forest.root v.next.depth v.made v.state
  pub holds : HoldsAt (stage_of v) v.state
  pub front : FrontAt v v.state
  pub room : AllHaveSeats (rest_in v) v.seats
