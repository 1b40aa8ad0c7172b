-- Which nodes of a level have to be asked anew.
use Rattle.std.specs.Prelude.{◌≡◌, ◌≤◌, ◌↔◌, ℕ, false, List, [], length, Some, slice_get}
use Rattle.lsys_spec.specs.Systems.{System}
use Rattle.lsys_spec.specs.Bodies.{group}
use Rattle.lsys_spec.specs.Levels.{ModuleValue}
use Rattle.lsys_level.specs.Spots.{Module}
use Rattle.lsys_laws.specs.Groups.{has_same_rules}
use Rattle.lsys_forest.specs.Nodes.{Nodes}
use Rattle.lsys_reads.specs.Neighbours.{neighbours_on}
use Rattle.lsys_forest.specs.Pairs.{seen_at}
use Rattle.lsys_reads.specs.Standings.{StandsAsBefore}
use Rattle.lsys_reads.specs.Lineages.{names}
use Rattle.lsys_reads.specs.Levels.{HasRead}
use Rattle.lsys_reads.specs.Meant.{IsCandidate}
use Rattle.lsys_front.specs.Repairs.{Repair, now, rest, were, are, SteppingSpots}

-- A node was on the level and is on it, and stands there as it stood: with its symbol, its neighbours and their symbols, and its
-- mate. Else it came, or is gone, or is disturbed.
pub record Remains {A : Type 0} (o m : Nodes A) (was are : List ℕ) (k : ℕ) : Type 0 where
  pub old_place : ℕ
  pub new_place : ℕ
  pub was_there : slice_get was old_place ≡ Some k
  pub is_there : slice_get are new_place ≡ Some k
  pub same : StandsAsBefore o m (neighbours_on o was old_place) (neighbours_on m are new_place) k

abbrev pub IsUndisturbed : Repair → ℕ → Type 0
IsUndisturbed r k = Remains (rest r) (now r) (were r) (are r) k

-- Why the module v of node k may have another question than before: the level was the last one, and nothing was asked there; the
-- node does not stand there as it stood; one that its old answer read does not; or it has other rules.
pub data MayDiffer (r : Repair) (k : ℕ) (v : ModuleValue) : Type 0 where
  was_last : r.old.depth ≤ r.level → MayDiffer r k v
  moved : (IsUndisturbed r k → ⊥) → MayDiffer r k v
  read_moved : (j : ℕ) → HasRead (rest r) r.store k j → (IsUndisturbed r j → ⊥) → MayDiffer r k v
  other_rules : has_same_rules r.old r.new r.level (names (now r) k) v ≡ false → MayDiffer r k v

-- the node is a module with a question, by the rules of level t of a system
pub record AsksOn {A : Type 0} (s : System) (t : ℕ) (m : Nodes A) (k : ℕ) : Type 0 where
  pub own : ModuleValue
  pub is : seen_at m k ≡ Module own
  pub rules : group s t own.name (length own.params) ≡ [] → ⊥

abbrev pub AsksNow : Repair → ℕ → Type 0
AsksNow r k = AsksOn r.new r.level (now r) k

-- that may be another one than before
pub record IsCandidateNode (r : Repair) (k : ℕ) : Type 0 where
  pub asks : AsksNow r k
  pub differs : MayDiffer r k asks.own

-- The module at a place of a level is a candidate exactly where its node is one.
abbrev pub CandidatesAreTheirNodes : Type 0
CandidatesAreTheirNodes =
    (r : Repair) → SteppingSpots r → (p k : ℕ) → slice_get (are r) p ≡ Some k
    → IsCandidate r.old r.new r.limit r.level p ↔ IsCandidateNode r k
