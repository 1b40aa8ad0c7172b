-- A level of a forest that is being repaired: what is known of it before its candidates are found.
use Rattle.std.specs.Prelude.{◌≡◌, ◌<◌, ℕ, List, Ok, Some, slice_get}
use Rattle.lsys_spec.specs.Systems.{System, WellSpelled}
use Rattle.lsys_spec.specs.Meaning.{meaning, meaning_to}
use Rattle.lsys_walks.specs.Stores.{Store}
use Rattle.lsys_match.specs.Kept.{Kept}
use Rattle.lsys_laws.specs.Nodes.{AreOnce, Extends}
use Rattle.lsys_forest.specs.Nodes.{Nodes}
use Rattle.lsys_forest.specs.Groves.{Grove, AreSound, now_of, rest_of, changes_in}
use Rattle.lsys_forest.specs.Rows.{level_nodes}
use Rattle.lsys_reads.specs.Lineages.{kins}
use Rattle.lsys_reads.specs.Levels.{HaveLevels, AnsweredAt}
use Rattle.lsys_reads.specs.Meant.{levels_meant, meant_to}

-- The system of the last rest, and the one that is being made; the limit; the number of the level; the forest, and the store of its
-- answers.
pub record Repair : Type 0 where
  pub old : System
  pub new : System
  pub limit : ℕ
  pub level : ℕ
  pub forest : Grove Kept
  pub store : Store

-- the nodes as they are, and those of the last rest
abbrev pub now : Repair → Nodes Kept
now r = now_of r.forest

abbrev pub rest : Repair → Nodes Kept
rest r = rest_of r.forest

abbrev pub root : Repair → ℕ
root r = r.forest.root

-- the nodes of the level, as they were and as they are
abbrev pub were : Repair → List ℕ
were r = level_nodes (rest r) (root r) r.level

abbrev pub are : Repair → List ℕ
are r = level_nodes (now r) (root r) r.level

-- At rest the nodes were the levels of the old system, and those of this level keep the answers to its questions. Now they are the
-- levels of the new one as far as this level, and a node that was there has the parent and the number that it had.
pub record SteppingSpots (r : Repair) : Type 0 where
  pub sound : AreSound (root r) (changes_in r.forest) (now r)
  pub old_spelled : WellSpelled r.old
  pub new_spelled : WellSpelled r.new
  pub old_is : meaning r.old r.limit ≡ Ok (levels_meant r.old r.limit)
  pub new_is : meaning_to r.new r.limit r.level ≡ Ok (meant_to r.new r.limit r.level)
  pub old_levels : HaveLevels (rest r) (root r) r.old.seed (levels_meant r.old r.limit)
  pub new_levels : HaveLevels (now r) (root r) r.new.seed (meant_to r.new r.limit r.level)
  pub once : AreOnce (kins (rest r)) (root r)
  pub once_now : AreOnce (kins (now r)) (root r)
  pub stay : Extends (kins (rest r)) (kins (now r))
  pub answered : (p k : ℕ) → r.level < r.old.depth → slice_get (were r) p ≡ Some k
      → AnsweredAt r.old r.level (rest r) (root r) r.store p k
