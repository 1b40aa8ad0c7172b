-- What is kept at rest.
use Rattle.std.specs.Prelude.{◌≡◌, ◌<◌, ◌⊎◌, ℕ, Bool, true, List, [], length, Ok, Some, None, slice_get}
use Rattle.lsys_spec.specs.Rows.{In}
use Rattle.lsys_spec.specs.Draws.{number_base}
use Rattle.lsys_spec.specs.Systems.{System, WellSpelled}
use Rattle.lsys_spec.specs.Meaning.{meaning}
use Rattle.lsys_walks.specs.Stores.{Store}
use Rattle.lsys_match.specs.Kept.{Kept}
use Rattle.lsys_match.specs.Asks.{IsMade}
use Rattle.lsys_reads.specs.Relations.{Relations}
use Rattle.lsys_laws.specs.Nodes.{AreOnce}
use Rattle.lsys_forest.specs.Nodes.{Node, Nodes}
use Rattle.lsys_forest.specs.Groves.{Reached}
use Rattle.lsys_forest.specs.Rows.{level_nodes}
use Rattle.lsys_reads.specs.Lineages.{kins}
use Rattle.lsys_reads.specs.Levels.{HaveLevels, AnsweredAt, answer_at}
use Rattle.lsys_reads.specs.Meant.{levels_meant}
use Rattle.lsys_reads.specs.declared.seat.Seat.{Seat}
use Rattle.lsys_reads.specs.Standings.{AreSeated}
use Rattle.lsys_pass.specs.Readers.{AreReaders}

-- Counts of children that have one code are small, so that code and count are one number.
abbrev pub AreCountedLow : Nodes Kept → Type 0
AreCountedLow m = (k : ℕ) (n : Node Kept) → m k ≡ Some n → n.count < number_base

-- The nodes are the levels of the system, with the answers to all its questions; who read what is settled, where it is listed; and
-- the seat of each node tells who is beside it. After the last level there are no nodes, and no node lives that is not reached.
pub record IsResting (listed : Bool) (s : System) (limit : ℕ) (m : Nodes Kept) (root : ℕ) (store : Store)
    (reads : Relations) (seats : List Seat) : Type 0 where
  pub spelled : WellSpelled s
  pub is : meaning s limit ≡ Ok (levels_meant s limit)
  pub levels : HaveLevels m root s.seed (levels_meant s limit)
  pub ends : level_nodes m root (length (levels_meant s limit)) ≡ []
  pub counts : AreCountedLow m
  pub once : AreOnce (kins m) root
  pub reached : (k : ℕ) (n : Node Kept) → m k ≡ Some n → Reached m root k
  pub answered : (t p k : ℕ) → t < s.depth → slice_get (level_nodes m root t) p ≡ Some k
      → AnsweredAt s t m root store p k
  pub others : (k : ℕ) → (k ≡ root) ⊎ In k (level_nodes m root s.depth) → answer_at m k ≡ None
  pub made : (k : ℕ) (a : Kept) → answer_at m k ≡ Some a → IsMade store a
  pub read : listed ≡ true → AreReaders m store reads
  pub seated : (t : ℕ) → AreSeated m (level_nodes m root t) seats
