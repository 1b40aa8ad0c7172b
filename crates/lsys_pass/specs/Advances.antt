-- What making the next level does to a stage, of which all that was pending is asked.
use Rattle.std.specs.Prelude.{◌≡◌, ◌<◌, ◌≤◌, ◌⊎◌, ◌^◌, ℕ, [], length, Ok, Some, None, slice_get}
use Rattle.lsys_spec.specs.Rows.{In, AreApart}
use Rattle.lsys_spec.specs.Systems.{WellSpelled}
use Rattle.lsys_spec.specs.Meaning.{meaning}
use Rattle.lsys_match.specs.Kept.{Kept}
use Rattle.lsys_laws.specs.Nodes.{AreOnce, Extends}
use Rattle.lsys_forest.specs.Groves.{Reached}
use Rattle.lsys_forest.specs.Rows.{level_nodes, level_spots}
use Rattle.lsys_reads.specs.Lineages.{kins}
use Rattle.lsys_reads.specs.Levels.{HaveLevels, AnsweredAt, answer_at}
use Rattle.lsys_reads.specs.Meant.{levels_meant, IsCandidate}
use Rattle.lsys_reads.specs.Seats.{SameSeats}
use Rattle.lsys_front.specs.Questioned.{AreSome}
use Rattle.lsys_children.specs.Nexts.{count_wanted}
use Rattle.lsys_children.specs.Answers.{kept_successors}
use Rattle.lsys_pass.specs.Rests.{AreCountedLow}
use Rattle.lsys_pass.specs.Stages.{Stage, was, IsNeededAt, HasTree, HasSeats, IsAtLevel}

-- Level t was asked: nothing of it is pending, and it has no faults.
pub record IsAskedTo (s : Stage) (t : ℕ) : Type 0 where
  pub at : IsAtLevel s t
  pub pending : s.pending ≡ []
  pub faults : s.faults ≡ []

-- how many symbols the next level has: as many as the answers of the nodes of level t want children
abbrev pub symbols_wanted : Stage → ℕ → ℕ
symbols_wanted s t = count_wanted s.next.numbering s.now (kept_successors s.now) (level_nodes s.now s.root t)

-- The last rest stays, what was read, whether that is listed, and which answers are new.
pub record KeepsRest (old new : Stage) : Type 0 where
  pub system : new.system ≡ old.system
  pub limit : new.limit ≡ old.limit
  pub root : new.root ≡ old.root
  pub was : was new ≡ was old
  pub store : new.store ≡ old.store
  pub reads : new.reads ≡ old.reads
  pub listed : new.listed ≡ old.listed
  pub renewed : new.renewed ≡ old.renewed
  pub born : new.born ≡ old.born
  pub same_seats : SameSeats old.seats new.seats

-- The levels before level t stay, with their answers. Elsewhere no answer is new, and one that is kept no more was dropped.
pub record StaysAbove (old new : Stage) (t : ℕ) : Type 0 where
  pub nodes : (u : ℕ) → u < t → level_nodes new.now new.root u ≡ level_nodes old.now old.root u
  pub spots : (u : ℕ) → u < t → level_spots new.now new.root u ≡ level_spots old.now old.root u
  pub names : Extends (kins old.now) (kins new.now)
  pub kept : (u k : ℕ) → u < t → In k (level_nodes old.now old.root u)
      → answer_at new.now k ≡ answer_at old.now k
  pub same : (k : ℕ) (a : Kept) → answer_at new.now k ≡ Some a → answer_at old.now k ≡ Some a
  pub gone : (k : ℕ) (a : Kept) → answer_at old.now k ≡ Some a
      → In k new.dropped ⊎ (answer_at new.now k ≡ Some a)

-- Those that are dropped stay so; others may come, that had an answer.
pub record Drops (old new : Stage) (t : ℕ) : Type 0 where
  pub more : (k : ℕ) → In k old.dropped → In k new.dropped
  pub apart : AreApart new.dropped
  pub had : (k : ℕ) → In k new.dropped → answer_at (was new) k ≡ None → ⊥
  pub none : (k u : ℕ) → In k new.dropped → u ≤ t → In k (level_nodes new.now new.root u)
      → answer_at new.now k ≡ None
  pub lost : (k : ℕ) (a : Kept) → answer_at (was new) k ≡ Some a
      → In k (level_nodes (was new) new.root t)
      → In k new.dropped ⊎ In k (level_nodes new.now new.root t)

-- Of each node of level t it is known whether it is to be asked: it is a candidate, with the answer that it had, or its
-- answer is right as it is. All candidates are to be asked.
pub record AreToAsk (s : Stage) (t : ℕ) : Type 0 where
  pub each : (p k : ℕ) → slice_get (level_nodes s.now s.root t) p ≡ Some k
      → (In k s.pending × IsCandidate s.system s.next s.limit t p
      × (answer_at s.now k ≡ answer_at (was s) k))
      ⊎ ((In k s.pending → ⊥) × AnsweredAt s.next t s.now s.root s.store p k
      × (IsNeededAt s t p → ⊥))
  pub all : (p k : ℕ) → slice_get (level_nodes s.now s.root t) p ≡ Some k
      → IsCandidate s.system s.next s.limit t p → In k s.pending
  pub in_order : AreSome s.pending (level_nodes s.now s.root t)
  pub apart : AreApart s.pending
  pub faults : s.faults ≡ []
  pub undropped : (k : ℕ) → In k s.dropped → In k s.pending → ⊥

-- level t is made
pub record Makes (old new : Stage) (t : ℕ) : Type 0 where
  pub next : new.next ≡ old.next
  pub run : KeepsRest old new
  pub above : StaysAbove old new t
  pub drops : Drops old new t
  pub seats : HasSeats new t

-- level 0 of another system is made, from the last rest
pub record BeginsAnew (old new : Stage) : Type 0 where
  pub run : KeepsRest old new
  pub same : (k : ℕ) (a : Kept) → answer_at new.now k ≡ Some a → answer_at old.now k ≡ Some a
  pub gone : (k : ℕ) (a : Kept) → answer_at old.now k ≡ Some a
      → In k new.dropped ⊎ (answer_at new.now k ≡ Some a)
  pub drops : Drops old new 0
  pub seats : HasSeats new 0

-- and it is one whose questions are to be asked; none is dropped yet of the old levels after it
pub record Advances (s : Stage) (t : ℕ) : Type 0 where
  pub tree : HasTree s.now (was s) s.root s.next s.limit t
  pub ask : AreToAsk s t
  pub dropped_at : (k : ℕ) → In k s.dropped
      → (u : ℕ) × (u ≤ t) × In k (level_nodes (was s) s.root u)

-- or it is the last one: its nodes have no answers and no children, and an answer that is still kept is reached or was dropped
pub record HasLastLevel (s : Stage) (t : ℕ) : Type 0 where
  pub depth : s.next.depth ≡ t
  pub spelled : WellSpelled s.next
  pub is : meaning s.next s.limit ≡ Ok (levels_meant s.next s.limit)
  pub levels : HaveLevels s.now s.root s.next.seed (levels_meant s.next s.limit)
  pub small : s.next.depth < 2 ^ 32
  pub counts : AreCountedLow s.now
  pub none_below : level_nodes s.now s.root (length (levels_meant s.next s.limit)) ≡ []
  pub once : AreOnce (kins s.now) s.root
  pub stay : Extends (kins (was s)) (kins s.now)
  pub last : (k : ℕ) → In k (level_nodes s.now s.root t) → answer_at s.now k ≡ None
  pub reached : (k : ℕ) (a : Kept) → answer_at s.now k ≡ Some a
      → Reached s.now s.root k ⊎ In k s.dropped
  pub dropped_none : (k : ℕ) → In k s.dropped → Reached s.now s.root k → answer_at s.now k ≡ None
