-- The last level that a repair makes, and what was on it and after it at the last rest.
use Rattle.std.specs.Prelude.{◌≡◌, ◌↔◌, ◌⊎◌, ◌+◌, ◌-◌, ◌<◌, ◌≤◌, ◌++◌, ℕ, List, [], Some, None, IsSome}
use Rattle.lsys_spec.specs.Rows.{In, AreApart}
use Rattle.lsys_forest.specs.Nodes.{Nodes}
use Rattle.lsys_forest.specs.Groves.{Reached}
use Rattle.lsys_forest.specs.Rows.{kids_below, level_nodes, level_spots}
use Rattle.lsys_match.specs.Kept.{Kept}
use Rattle.lsys_reads.specs.Lineages.{kins}
use Rattle.lsys_reads.specs.Levels.{HaveLevels, answer_at}
use Rattle.lsys_reads.specs.Meant.{meant_to}
use Rattle.lsys_children.specs.Renewals.{AreSmall, KeepsUpper, KeepsDeeper}
use Rattle.lsys_front.specs.Repairs.{Repair, now, rest, root, are, SteppingSpots}
use Rattle.lsys_front.specs.Found.{LevelChanges, Differs}
use Rattle.lsys_front.specs.Ends.{answered_in, row_below, rows_from}

-- 1. the level ends

-- The nodes m are those of the repair, with its level as the last one: nothing is below it, and its nodes keep no answers. The
-- levels stay, and so do the lineages, and the answers of all other nodes.
pub record IsLevelEnded (r : Repair) (m : Nodes Kept) : Type 0 where
  pub none_below : level_nodes m (root r) (r.level + 1) ≡ []
  pub no_answers : (k : ℕ) → In k (are r) → answer_at m k ≡ None
  pub answers : (k : ℕ) → (In k (are r) → ⊥) → answer_at m k ≡ answer_at (now r) k
  pub nodes : (v : ℕ) → v ≤ r.level
      → level_nodes m (root r) v ≡ level_nodes (now r) (root r) v
  pub spots : (v : ℕ) → v ≤ r.level
      → level_spots m (root r) v ≡ level_spots (now r) (root r) v
  pub upper : KeepsUpper (now r) m (r.level + 1)
  pub levels : HaveLevels m (root r) r.new.seed (meant_to r.new r.limit r.level)
  pub kin : (k : ℕ) → kins m k ≡ kins (now r) k
  pub small : AreSmall (now r) → AreSmall m

-- The old system has no level after this one. At the last rest nothing was below its last level, whose nodes kept no answers; and a
-- node of this level keeps the answer that it kept then, or none.
pub record IsAfterAll (r : Repair) : Type 0 where
  pub deeper : KeepsDeeper (rest r) (now r) (r.level + 1)
  pub depth : r.old.depth ≤ r.level
  pub ends : level_nodes (rest r) (root r) (r.old.depth + 1) ≡ []
  pub last : (k : ℕ) → In k (level_nodes (rest r) (root r) r.old.depth)
      → answer_at (rest r) k ≡ None
  pub same : (k : ℕ) → In k (are r)
      → (answer_at (now r) k ≡ None) ⊎ (answer_at (now r) k ≡ answer_at (rest r) k)

-- 2. what was after it

-- It is told how the level of the repair differs, and what lies deeper is as at the last rest.
pub record IsLastLevel (r : Repair) (c : LevelChanges) : Type 0 where
  pub spots : SteppingSpots r
  pub deeper : KeepsDeeper (rest r) (now r) (r.level + 1)
  pub differs : Differs r c
  pub gone_once : AreApart c.gone

-- the children of the nodes of the level, and those of the nodes that are gone from it
abbrev pub all_below : Repair → LevelChanges → List ℕ
all_below r c = kids_below (now r) (are r) ++ kids_below (now r) c.gone

-- At the last rest the node was on a level after this one, at most the last of the old system, and kept an answer.
pub record HadAnswerAfter (r : Repair) (k : ℕ) : Type 0 where
  pub level : ℕ
  pub after : r.level < level
  pub within : level ≤ r.old.depth
  pub there : In k (level_nodes (rest r) (root r) level)
  pub answer : Kept
  pub kept : answer_at (rest r) k ≡ Some answer

-- By the nodes m, those children and the nodes below them, row by row, are the levels that were after this one at the last rest.
-- None of them is reached from the root. Down to the last level of the old system, those that keep an answer are those that kept
-- one then. The children of the nodes that are gone are as they were.
pub record HasAllAfter (r : Repair) (c : LevelChanges) (m : Nodes Kept) : Type 0 where
  pub rows : (n k : ℕ) → In k (row_below m n (all_below r c))
      ↔ In k (level_nodes (rest r) (root r) (r.level + 1 + n))
  pub lives : (k : ℕ) → In k (all_below r c) → IsSome (m k)
  pub unreached : (n k : ℕ) → In k (rows_from m n (all_below r c)) → Reached m (root r) k → ⊥
  pub answers : (k : ℕ)
      → In k (answered_in m (rows_from m (r.old.depth - r.level) (all_below r c)))
      ↔ HadAnswerAfter r k
  pub answers_once : (n : ℕ) → AreApart (answered_in m (rows_from m n (all_below r c)))
  pub gone : kids_below m c.gone ≡ kids_below (now r) c.gone
