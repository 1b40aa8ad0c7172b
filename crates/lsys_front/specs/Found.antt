-- What is known of a level before its nodes are found, and which are.
use Rattle.std.specs.Prelude.{◌≡◌, ◌<◌, ◌⊎◌, ◌↔◌, ℕ, true, false, List, ◌++◌, Some, slice_get, Vec}
use Rattle.std.specs.declared.alloc.Global.{Global}
use Rattle.lsys_spec.specs.Rows.{In, AreApart}
use Rattle.lsys_syntax.specs.Calls.{Lent}
use Rattle.lsys_spec.specs.Levels.{ModuleValue}
use Rattle.lsys_level.specs.Spots.{Module}
use Rattle.lsys_reads.specs.Relations.{Relations, is_settled}
use Rattle.lsys_laws.specs.Groups.{has_same_rules}
use Rattle.lsys_forest.specs.Groves.{Grove, AreSound, changes_in}
use Rattle.lsys_forest.specs.Rows.{level_nodes}
use Rattle.lsys_match.specs.Kept.{Kept}
use Rattle.lsys_reads.specs.Lineages.{names}
use Rattle.lsys_reads.specs.Levels.{HasRead, AnsweredAt, answer_at}
use Rattle.lsys_reads.specs.declared.seat.Seat.{Seat}
use Rattle.lsys_reads.specs.Neighbours.{neighbours_in, IsOnLevel}
use Rattle.lsys_reads.specs.Seats.{neighbours_at, HasSeat}
use Rattle.lsys_forest.specs.Pairs.{seen_at}
use Rattle.lsys_reads.specs.Standings.{AreSeated}
use Rattle.lsys_front.specs.Finds.{IsTurned, IsBeside, IsReader}
use Rattle.lsys_front.specs.Repairs.{Repair, now, rest, root, were, are, SteppingSpots}

-- How a level changed: the nodes that came, those that are gone, and those that stayed with another symbol; and those that were
-- looked at, since they may have other neighbours, or another mate.
pub record LevelChanges : Type 0 where
  pub came : List ℕ
  pub gone : List ℕ
  pub changed : List ℕ
  pub looked : List ℕ

-- 1. the calls

-- the nodes that came or are gone
abbrev pub IsOther : LevelChanges → ℕ → Type 0
IsOther c k = In k c.gone ⊎ In k c.came

-- those that changed and those that were looked at stand on complete levels
pub record AreOnLevels {A : Type 0} (f : Grove A) (c : LevelChanges) : Type 0 where
  pub looked : (k : ℕ) → In k c.looked → IsOnLevel f k
  pub changed : (k : ℕ) → In k c.changed → IsOnLevel f k

-- there is a seat for each node that may be found
pub record HasSeatsForFound {A : Type 0} (f : Grove A) (reads : Relations) (c : LevelChanges) (seats : List Seat) : Type 0 where
  pub others : (k : ℕ) → IsOther c k → HasSeat seats k
  pub looked : (k : ℕ) → In k c.looked → HasSeat seats k
  pub beside : (k : ℕ) → IsBeside f c.changed k → HasSeat seats k
  pub readers : (k node : ℕ) → is_settled reads k node ≡ true → HasSeat seats k

-- The nodes that were found, each once, and none that came or is gone: those that turned; of others, those that changed and those
-- beside them; and of others, those whose answers read one of these, or one that is gone.
pub record IsFound {A : Type 0} (f : Grove A) (seats : List Seat) (reads : Relations) (c : LevelChanges) (turned beside readers : List ℕ) : Type 0 where
  pub turned_are : (k : ℕ) → In k turned ↔ (IsTurned f seats c.looked k × (IsOther c k → ⊥))
  pub beside_are : (k : ℕ) → In k beside ↔ (IsBeside f c.changed k × (IsOther c k ⊎ In k turned → ⊥))
  pub readers_are : (k : ℕ) → In k readers ↔ (IsReader reads (turned ++ (beside ++ c.gone)) k × (IsOther c k ⊎ In k turned ⊎ In k beside → ⊥))
  pub turned_once : AreApart turned
  pub beside_once : AreApart beside
  pub readers_once : AreApart readers

-- likewise where a call is lent seats and the lists of what was found
abbrev pub FindsIn : {A : Type 0} → Grove A → Lent (List Seat) → Relations → LevelChanges
    → Lent (Vec ℕ Global) → Lent (Vec ℕ Global) → Lent (Vec ℕ Global) → Type 0
FindsIn f seats reads c turned beside readers =
    IsFound f seats.entry.now reads c turned.exit.now.items beside.exit.now.items readers.exit.now.items

-- one that came or was found
abbrev pub IsAmong : LevelChanges → List ℕ → List ℕ → List ℕ → ℕ → Type 0
IsAmong c turned beside readers k = In k c.came ⊎ In k turned ⊎ In k beside ⊎ In k readers

-- 2. the level

-- a module that has other rules than before
pub record HasOtherRules (r : Repair) (k : ℕ) : Type 0 where
  pub own : ModuleValue
  pub is : seen_at (now r) k ≡ Module own
  pub rules : has_same_rules r.old r.new r.level (names (now r) k) own ≡ false

-- Of a level these nodes came, are gone, and have another symbol than at the last rest.
pub record Differs (r : Repair) (c : LevelChanges) : Type 0 where
  pub came : (k : ℕ) → In k c.came ↔ (In k (are r) × (In k (were r) → ⊥))
  pub gone : (k : ℕ) → In k c.gone ↔ (In k (were r) × (In k (are r) → ⊥))
  pub changed : (k : ℕ) → In k c.changed
      ↔ (In k (are r) × In k (were r) × (seen_at (now r) k ≡ seen_at (rest r) k → ⊥))

-- Of a level of which the old system had the questions it is told what differs; and who has other neighbours, or another mate, is
-- among those that were looked at. The seats tell the neighbours of the last rest, and what is settled is what its answers read. A
-- module of the level has the rules that it had, or is among the others.
pub record SteppingNodes (r : Repair) (seats : List Seat) (reads : Relations) (c : LevelChanges)
    (others : List ℕ) : Type 0 where
  pub spots : SteppingSpots r
  pub below : r.level < r.old.depth
  pub differs : Differs r c
  pub looked : (k : ℕ) → In k (are r) → In k (were r)
      → In k c.looked ⊎ (neighbours_in r.forest k ≡ neighbours_at seats k)
  pub looked_are : (k : ℕ) → In k c.looked → In k (are r)
  pub seated : AreSeated (rest r) (were r) seats
  pub read : (reader seen : ℕ)
      → (is_settled reads reader seen ≡ true) ↔ HasRead (rest r) r.store reader seen
  pub readers : (reader seen : ℕ) → HasRead (rest r) r.store reader seen → In seen (were r)
      → In reader (were r)
  pub rules : (k : ℕ) (v : ModuleValue) → In k (are r) → seen_at (now r) k ≡ Module v
      → In k others ⊎ (has_same_rules r.old r.new r.level (names (now r) k) v ≡ true)
  pub others_are : (k : ℕ) → In k others → In k (are r) × HasOtherRules r k

-- 3. whose answers read nodes of a level

-- the node is on a level, and the answer that it keeps is right there
pub record IsRightAnswer (r : Repair) (k : ℕ) : Type 0 where
  pub level : ℕ
  pub place : ℕ
  pub there : slice_get (level_nodes (rest r) (root r) level) place ≡ Some k
  pub answered : AnsweredAt r.old level (rest r) (root r) r.store place k

-- At rest each node that keeps an answer is on a level that has one after it, and the answer is right there.
pub record AreAnswersRight (r : Repair) : Type 0 where
  pub sound : AreSound (root r) (changes_in r.forest) (now r)
  pub kept : (k : ℕ) (a : Kept) → answer_at (rest r) k ≡ Some a → IsRightAnswer r k
