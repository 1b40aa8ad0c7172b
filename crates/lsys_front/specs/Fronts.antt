-- What differs on the level of a repair that was made last, and what becomes of it on the next.
use Rattle.std.specs.Prelude.{◌≡◌, ◌⊎◌, ◌+◌, ◌<◌, ◌++◌, ◌∷◌, ℕ, List, [], length, map, Some, None}
use Rattle.lsys_spec.specs.Rows.{In, AreApart}
use Rattle.lsys_match.specs.Kept.{Kept}
use Rattle.lsys_forest.specs.Groves.{Grove, AreSound, IsRooted, now_of, rest_of, changes_in}
use Rattle.lsys_forest.specs.Rows.{kids_in, kids_below, level_nodes, complete_levels}
use Rattle.lsys_children.specs.Children.{ToldNodes}
use Rattle.lsys_children.specs.Matches.{nodes_without}
use Rattle.lsys_reads.specs.Levels.{answer_at}
use Rattle.lsys_children.specs.Nexts.{Successors}
use Rattle.lsys_children.specs.Renewals.{AreRenewals}
use Rattle.lsys_children.specs.declared.parent.Parent.{Parent}
use Rattle.lsys_children.specs.Parents.{nodes_in, AreToldBy}
use Rattle.lsys_children.specs.Needs.{number_told, wanted_symbols}
use Rattle.lsys_children.specs.Made.{TellsAllOf, gone_of}
use Rattle.lsys_reads.specs.declared.seat.Seat.{Seat}
use Rattle.lsys_reads.specs.Looks.{LooksAround, LooksBeyond, LooksAtMate, LooksInto}
use Rattle.lsys_front.specs.Repairs.{Repair, now, rest, root, are}
use Rattle.lsys_front.specs.Found.{LevelChanges, Differs}
use Rattle.lsys_front.specs.Turned.{AreTurnedBy}

-- 1. a front

-- How a level changed; which of its nodes that were there have other neighbours, or another mate; and which lost the answer that
-- they had.
pub record Differences : Type 0 where
  pub changes : LevelChanges
  pub turned : List ℕ
  pub bare : List ℕ

-- nothing differs
abbrev pub no_differences : Differences
no_differences = record {
  changes = record { came = []; gone = []; changed = []; looked = [] };
  turned = [];
  bare = [];
}

-- what is known of the level that was made last
pub record IsLevelFront (r : Repair) (seats : List Seat) (d : Differences) : Type 0 where
  pub differs : Differs r d.changes
  pub gone_once : AreApart d.changes.gone
  pub turned : AreTurnedBy (rest r) r.forest r.level seats (d.changes.came ++ d.turned)
  pub turned_are : (k : ℕ) → In k d.turned → In k (are r)
  pub bare_are : (k : ℕ) → In k d.bare → In k (are r)
  pub bare : (k : ℕ) (a : Kept) → In k (are r) → answer_at (rest r) k ≡ Some a
      → answer_at (now r) k ≡ None → In k d.bare

-- nodes whose children may be others: those with a new answer, those that came or changed, and those that lost their answer
abbrev pub MayHaveOthers : Differences → List ℕ → ℕ → Type 0
MayHaveOthers d renewed k =
    In k renewed ⊎ In k d.changes.came ⊎ In k d.changes.changed ⊎ In k d.bare

-- 2. the next level

-- nothing is told
abbrev pub nothing : ToldNodes
nothing = record { touched = []; changed = []; added = []; gone = []; room = 0 }

-- the next level of a repair, in this forest
abbrev pub next_of : Repair → Grove Kept → Repair
next_of r h = record r { forest = h; level = r.level + 1 }

-- The forest of a repair became this one: the children of these parents, of its level, were made, by what is wanted of each, and it
-- was told what differs.
pub record MakesNext (r : Repair) (h : Grove Kept) (by : Successors) (ps : List Parent)
    (told : ToldNodes) : Type 0 where
  pub root : h.root ≡ r.forest.root
  pub rest : rest_of h ≡ rest r
  pub sound : AreSound h.root (changes_in h) (now_of h)
  pub renewals : AreRenewals r.new.numbering r.new.seed (now r) (now_of h) r.forest.root
      (r.level + 1) by (nodes_in ps)
  pub parents : (k : ℕ) → In k (nodes_in ps) → In k (are r)
  pub apart : AreApart (nodes_in ps)
  pub wants : AreToldBy by (now r) ps
  pub tells : TellsAllOf (now r) (now_of h) (nodes_in ps) nothing told
  pub gone : told.gone ≡ gone_of r.new.numbering (now r) ps

-- What was told of the next level, as its changes: also the children of those that are gone are gone.
pub record IsToldNext (h : Grove Kept) (d : Differences) (told : ToldNodes) (c : LevelChanges) : Type 0 where
  pub came : c.came ≡ told.added
  pub changed : c.changed ≡ told.changed
  pub gone : c.gone ≡ told.gone ++ kids_below (now_of h) d.changes.gone

-- The first level, in the forest of the repair: the children of the root were made those of the axiom, and it was told what differs.
pub record IsFirst (r : Repair) (by : Successors) (told : ToldNodes) : Type 0 where
  pub level : r.level ≡ 0
  pub «axiom» : by (root r) ≡ r.new.axiom_string
  pub renewals : AreRenewals r.new.numbering r.new.seed (rest r) (now r) (root r) 0
      by (root r ∷ [])
  pub tells : TellsAllOf (rest r) (now r) (root r ∷ []) nothing told
  pub gone : told.gone ≡ nodes_without (rest r)
      (map number_told (wanted_symbols r.new.numbering r.new.axiom_string))
      (kids_in (rest r (root r)))

pub record IsToldFirst (told : ToldNodes) (c : LevelChanges) : Type 0 where
  pub came : c.came ≡ told.added
  pub changed : c.changed ≡ told.changed
  pub gone : c.gone ≡ told.gone

-- 3. who is looked at

-- these nodes stand on level t of a forest that hangs together, and the level is complete
pub record StandOn {A : Type 0} (f : Grove A) (t : ℕ) (nodes : List ℕ) : Type 0 where
  pub sound : IsRooted f.root (changes_in f) (now_of f)
  pub complete : t < length (complete_levels f)
  pub among : (q : ℕ) → In q nodes → In q (level_nodes (now_of f) f.root t)

-- By these nodes of a level, which are new or have other children, and those, which are new or have other neighbours or another mate,
-- it was looked at nodes of the next level.
pub record LooksBelow {A : Type 0} (h : Grove A) (touched turned looked : List ℕ) : Type 0 where
  pub around : (q : ℕ) → In q touched → LooksAround h q looked
  pub mates : (q : ℕ) → In q touched → LooksAtMate h q looked
  pub beyond : (q : ℕ) → In q turned → LooksBeyond h q looked
  pub branches : (q : ℕ) → In q turned → LooksInto h q looked
