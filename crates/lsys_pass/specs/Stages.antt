-- What a pass keeps true while it makes the levels of another system.
use Rattle.std.specs.Prelude.{◌≡◌, ◌<◌, ◌≤◌, ◌+◌, ◌^◌, ◌⊎◌, ◌↔◌, ℕ, Bool, true, false, List, [], ◌∷◌, length, count_by, is_none, Ok, Err, Option, Some, None, cond, nat_eq, slice_get}
use Rattle.lsys_spec.specs.Rows.{In, AreApart}
use Rattle.lsys_spec.specs.Systems.{System, WellSpelled}
use Rattle.lsys_spec.specs.Levels.{ModuleValue, Module}
use Rattle.lsys_spec.specs.Levels as L
use Rattle.lsys_spec.specs.Meaning.{meaning, meaning_to, successor}
use Rattle.lsys_rewrite.specs.Faults.{fault_of}
use Rattle.lsys_rewrite.specs.declared.refusal.FaultKind.{FaultKind}
use Rattle.lsys_walks.specs.Stores.{Store}
use Rattle.lsys_match.specs.Kept.{Kept}
use Rattle.lsys_match.specs.Asks.{IsMade}
use Rattle.lsys_reads.specs.Relations.{Relations, is_pending}
use Rattle.lsys_laws.specs.Nodes.{AreOnce, Extends}
use Rattle.lsys_forest.specs.Nodes.{Node, Nodes}
use Rattle.lsys_forest.specs.Changes.{Change, undone}
use Rattle.lsys_forest.specs.Answers.{AnswerKeeper, answers, IsHeld}
use Rattle.lsys_forest.specs.Groves.{AreSound, Reached}
use Rattle.lsys_forest.specs.Rows.{level_nodes}
use Rattle.lsys_reads.specs.Names.{RunName, run_in, holds}
use Rattle.lsys_reads.specs.Lineages.{kins}
use Rattle.lsys_reads.specs.Levels.{HaveLevels, AnsweredAt, level_of, answer_at, HasRead}
use Rattle.lsys_reads.specs.Meant.{levels_meant, meant_to, level_to, IsCandidate, IsNeeded}
use Rattle.lsys_reads.specs.declared.seat.Seat.{Seat}
use Rattle.lsys_reads.specs.Neighbours.{neighbours_on}
use Rattle.lsys_reads.specs.Seats.{neighbours_at, HasSeat}
use Rattle.lsys_front.specs.Questioned.{AreSome}
use Rattle.lsys_pass.specs.declared.fault.Faulted.{Faulted}
use Rattle.lsys_pass.specs.Rests.{AreCountedLow, IsResting}

-- The nodes, what they were before each change since the last rest, and the root; the store of their answers; who read what, and
-- whether that is listed; the seats of the last rest; the system of the last rest, and the one that is being made; the limit; the
-- nodes of the level that are still to be asked, from left to right; those that have a fault; those that got another answer since
-- the last rest, and how many of them had none then; those that had one and are gone or have no question any more; and those whose
-- seat tells others than stand beside them now.
pub record Stage : Type 0 where
  pub now : Nodes Kept
  pub changes : List (Change Kept)
  pub root : ℕ
  pub store : Store
  pub reads : Relations
  pub listed : Bool
  pub seats : List Seat
  pub system : System
  pub next : System
  pub limit : ℕ
  pub pending : List ℕ
  pub faults : List Faulted
  pub renewed : List ℕ
  pub born : ℕ
  pub dropped : List ℕ
  pub moved : List ℕ

-- the nodes of the last rest
abbrev pub was : Stage → Nodes Kept
was s = undone s.changes s.now

-- 1. at any time

-- The nodes hang together, as they are and as they were. Each answer that is kept now, or was at any time since the last rest, was
-- made with the store, no two hold one run, and a run that none of them holds isn't live.
pub record IsStored (m : Nodes Kept) (changes : List (Change Kept)) (root : ℕ) (store : Store) : Type 0 where
  pub sound : AreSound root changes m
  pub made : (h : AnswerKeeper) (a : Kept) → answers m changes h ≡ Some a → IsMade store a
  pub once : (h i : AnswerKeeper) (a b : Kept) (r : RunName) → answers m changes h ≡ Some a → answers m changes i ≡ Some b
      → holds a r → holds b r → h ≡ i
  pub freed : (r : RunName) → (IsHeld run_in holds (answers m changes) r → ⊥) → run_in store r ≡ None

-- the forest of the last rest, and, if it is listed, who read what in it
abbrev pub RestsAs : Bool → Stage → Type 0
RestsAs listed s = IsResting listed s.system s.limit (was s) s.root s.store s.reads s.seats

-- Likewise while an edit is under way, which has to know who read what: where it isn't listed nothing was answered, so nobody
-- read anything.
abbrev pub Rests : Stage → Type 0
Rests s = RestsAs true s

-- 2. a level

-- the fault of a node that was noted
abbrev pub fault_in : ℕ → List Faulted → Option FaultKind
fault_in k [] = None
fault_in k (f ∷ fs) = cond (nat_eq k f.node) (Some f.kind) (fault_in k fs)

-- the module at place p of level t has this fault
abbrev pub HasFault : System → ℕ → List L.LevelSymbol → ℕ → FaultKind → Type 0
HasFault s t y p kind =
    (l : List ℕ) (m : ModuleValue) → slice_get y p ≡ Some (Module l m)
    → successor s t y p l m ≡ Err (fault_of kind)

abbrev pub OutcomeBy : Option FaultKind → Type 0 → (FaultKind → Type 0) → Type 0
OutcomeBy None answered faulted = answered
OutcomeBy (Some kind) answered faulted = faulted kind

-- What is kept of node k at place p of level t, if it isn't pending: the fault of its module, or the answer to its question.
abbrev pub IsNodeOutcome : Stage → ℕ → ℕ → ℕ → Type 0
IsNodeOutcome s t p k =
    OutcomeBy (fault_in k s.faults) (AnsweredAt s.next t s.now s.root s.store p k)
    (HasFault s.next t (level_to s.next s.limit t) p)

-- A fault that was noted is the one of its node, which is one of these; and it stands as a module on the level y, which they are.
pub record IsNoted (faults : List Faulted) (ks : List ℕ) (y : List L.LevelSymbol) (f : Faulted) : Type 0 where
  pub place : ℕ
  pub line : List ℕ
  pub own : ModuleValue
  pub there : slice_get ks place ≡ Some f.node
  pub stands : slice_get y place ≡ Some (Module line own)
  pub is : fault_in f.node faults ≡ Some f.kind

abbrev pub AreNoted : List Faulted → List ℕ → List L.LevelSymbol → Type 0
AreNoted faults ks y = (i : ℕ) (f : Faulted) → slice_get faults i ≡ Some f → IsNoted faults ks y f

-- node k at place p of level t is still to be asked: a candidate, with the answer that it had, and no fault
pub record IsPending (s : Stage) (t p k : ℕ) : Type 0 where
  pub pending : In k s.pending
  pub candidate : IsCandidate s.system s.next s.limit t p
  pub same : answer_at s.now k ≡ answer_at (was s) k
  pub faultless : fault_in k s.faults ≡ None

-- or it is not, and its outcome is kept
pub record IsSettled (s : Stage) (t p k : ℕ) : Type 0 where
  pub done : In k s.pending → ⊥
  pub outcome : IsNodeOutcome s t p k

-- the node at place p of level t has a question that the old system didn't answer
abbrev pub IsNeededAt : Stage → ℕ → ℕ → Type 0
IsNeededAt s t p = IsNeeded s.system s.next s.limit t (level_of s.now s.root t) p

-- The nodes m up to level t are the levels of the system; what lies deeper is as it was in the nodes o of the last rest.
pub record HasTree (m o : Nodes Kept) (root : ℕ) (new : System) (limit t : ℕ) : Type 0 where
  pub spelled : WellSpelled new
  pub below : t < new.depth
  pub small : t < 2 ^ 32
  pub is : meaning_to new limit t ≡ Ok (meant_to new limit t)
  pub levels : HaveLevels m root new.seed (meant_to new limit t)
  pub counts : AreCountedLow m
  pub once : AreOnce (kins m) root
  pub stay : Extends (kins o) (kins m)
  pub kids : (k : ℕ) (n p : Node Kept) → m k ≡ Some n → o k ≡ Some p → n.depth ≡ t + 1
      → n.kids ≡ p.kids
  pub new_kids : (k : ℕ) (n : Node Kept) → m k ≡ Some n → o k ≡ None → n.depth ≡ t + 1
      → n.kids ≡ []
  pub deeper : (k : ℕ) (n : Node Kept) → o k ≡ Some n → t + 1 < n.depth → m k ≡ Some n
  pub none_deeper : (k : ℕ) (n : Node Kept) → m k ≡ Some n → o k ≡ None → n.depth ≤ t + 1

-- The questions above level t are answered, and on it those that are not pending, or their faults noted.
pub record HasAnswers (s : Stage) (t : ℕ) : Type 0 where
  pub above : (u p k : ℕ) → u < t → slice_get (level_nodes s.now s.root u) p ≡ Some k
      → AnsweredAt s.next u s.now s.root s.store p k
  pub here : (p k : ℕ) → slice_get (level_nodes s.now s.root t) p ≡ Some k
      → IsPending s t p k ⊎ IsSettled s t p k
  pub noted : AreNoted s.faults (level_nodes s.now s.root t) (level_of s.now s.root t)
  pub in_order : AreSome s.pending (level_nodes s.now s.root t)
  pub apart : AreApart s.pending

-- what the new answers read is pending
abbrev pub HaveNewRead : Stage → Type 0
HaveNewRead s =
    (reader seen : ℕ) → (is_pending s.reads reader seen ≡ true)
    ↔ (In reader s.renewed × HasRead s.now s.store reader seen)

-- Which answers are new, and which are gone or will be; what the new ones read is pending, where it is listed, and else nothing.
pub record HasLists (s : Stage) (t : ℕ) : Type 0 where
  pub read : s.listed ≡ true → HaveNewRead s
  pub unread : s.listed ≡ false → s.reads.pending ≡ []
  pub renewed_are : (k : ℕ) → In k s.renewed
      → (u : ℕ) × (u ≤ t) × In k (level_nodes s.now s.root u)
  pub renewed_done : (k : ℕ) → In k s.renewed → In k s.pending → ⊥
  pub dropped_are : (k u : ℕ) → In k s.dropped → u ≤ t → In k (level_nodes s.now s.root u)
      → answer_at s.now k ≡ None
  pub dropped_done : (k : ℕ) → In k s.dropped → In k s.pending → ⊥
  pub kept : (k : ℕ) (a : Kept) → answer_at (was s) k ≡ Some a
      → In k s.renewed ⊎ In k s.dropped ⊎ (answer_at s.now k ≡ Some a)
  pub dropped_apart : AreApart s.dropped
  pub dropped_at : (k : ℕ) → In k s.dropped
      → (u : ℕ) × (u ≤ t) × In k (level_nodes (was s) s.root u)
  pub dropped_had : (k : ℕ) → In k s.dropped → answer_at (was s) k ≡ None → ⊥
  pub lost : (k u : ℕ) (a : Kept) → u ≤ t → answer_at (was s) k ≡ Some a
      → In k (level_nodes (was s) s.root u)
      → In k s.dropped ⊎ In k (level_nodes s.now s.root u)
  pub fresh : (k : ℕ) (a : Kept) → answer_at s.now k ≡ Some a
      → In k s.renewed ⊎ (answer_at (was s) k ≡ Some a)

-- The nodes with a new answer are those whose question the old system didn't answer, up to level t; of those that are pending,
-- and of those that have a fault, none.
pub record HasNews (s : Stage) (t : ℕ) : Type 0 where
  pub apart : AreApart s.renewed
  pub needed : (u p k : ℕ) → u ≤ t → slice_get (level_nodes s.now s.root u) p ≡ Some k
      → In k s.renewed → IsNeededAt s u p
  pub all : (u p k : ℕ) → u ≤ t → slice_get (level_nodes s.now s.root u) p ≡ Some k
      → IsNeededAt s u p → In k s.renewed ⊎ In k s.pending ⊎ (fault_in k s.faults ≡ None → ⊥)
  pub born : s.born ≡ count_by (λ k. is_none (answer_at (was s) k)) s.renewed

-- Up to level t the seat of each node tells its neighbours, or the node is one of those that moved, which have a seat.
pub record HasSeats (s : Stage) (t : ℕ) : Type 0 where
  pub seated : (u p k : ℕ) → u ≤ t → slice_get (level_nodes s.now s.root u) p ≡ Some k
      → In k s.moved
      ⊎ (neighbours_at s.seats k ≡ neighbours_on s.now (level_nodes s.now s.root u) p)
  pub moved_are : (k : ℕ) → In k s.moved
      → (u : ℕ) × (u ≤ t) × In k (level_nodes s.now s.root u)
  pub room : (k : ℕ) → In k s.moved → HasSeat s.seats k

-- at level t
pub record IsAtLevel (s : Stage) (t : ℕ) : Type 0 where
  pub rest : Rests s
  pub tree : HasTree s.now (was s) s.root s.next s.limit t
  pub answers : HasAnswers s t
  pub lists : HasLists s t
  pub news : HasNews s t
  pub seats : HasSeats s t

-- 3. all levels are there

pub record IsDone (s : Stage) : Type 0 where
  pub rest : Rests s
  pub spelled : WellSpelled s.next
  pub is : meaning s.next s.limit ≡ Ok (levels_meant s.next s.limit)
  pub levels : HaveLevels s.now s.root s.next.seed (levels_meant s.next s.limit)
  pub small : s.next.depth < 2 ^ 32
  pub counts : AreCountedLow s.now
  pub ends : level_nodes s.now s.root (length (levels_meant s.next s.limit)) ≡ []
  pub once : AreOnce (kins s.now) s.root
  pub stay : Extends (kins (was s)) (kins s.now)
  pub answered : (t p k : ℕ) → t < s.next.depth → slice_get (level_nodes s.now s.root t) p ≡ Some k
      → AnsweredAt s.next t s.now s.root s.store p k
  pub last : (k : ℕ) → In k (level_nodes s.now s.root s.next.depth) → answer_at s.now k ≡ None
  pub read : s.listed ≡ true → HaveNewRead s
  pub unread : s.listed ≡ false → s.reads.pending ≡ []
  pub renewed_are : (k : ℕ) → In k s.renewed
      → (u : ℕ) × (u < s.next.depth) × In k (level_nodes s.now s.root u)
  pub renewed_apart : AreApart s.renewed
  pub news : (u p k : ℕ) → u < s.next.depth
      → slice_get (level_nodes s.now s.root u) p ≡ Some k
      → In k s.renewed ↔ IsNeededAt s u p
  pub born : s.born ≡ count_by (λ k. is_none (answer_at (was s) k)) s.renewed
  pub dropped_apart : AreApart s.dropped
  pub dropped_had : (k : ℕ) → In k s.dropped → answer_at (was s) k ≡ None → ⊥
  pub dropped_are : (k : ℕ) → In k s.dropped → Reached s.now s.root k → answer_at s.now k ≡ None
  pub kept : (k : ℕ) (a : Kept) → answer_at (was s) k ≡ Some a
      → In k s.renewed ⊎ In k s.dropped
      ⊎ (Reached s.now s.root k × (answer_at s.now k ≡ Some a))
  pub fresh : (k : ℕ) (a : Kept) → answer_at s.now k ≡ Some a
      → In k s.renewed ⊎ (answer_at (was s) k ≡ Some a)
  pub seats : HasSeats s s.next.depth
