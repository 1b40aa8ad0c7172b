-- A level of a repair whose next level was made.
use Rattle.std.specs.Prelude.{◌≡◌, ◌⊎◌, ◌+◌, ℕ, List, Ok, Some, slice_get}
use Rattle.lsys_spec.specs.Meaning.{replacement}
use Rattle.lsys_spec.specs.Rows.{In}
use Rattle.lsys_match.specs.Kept.{Kept}
use Rattle.lsys_forest.specs.Groves.{Grove, IsRooted, changes_in, now_of}
use Rattle.lsys_forest.specs.Rows.{level_nodes, level_of_node}
use Rattle.lsys_children.specs.Children.{KeepsChildren}
use Rattle.lsys_reads.specs.Levels.{level_of}
use Rattle.lsys_children.specs.Nexts.{Successors, AreLevels, node_symbol}
use Rattle.lsys_reads.specs.Looks.{LooksAround, LooksBeyond, LooksAtMate, LooksInto}
use Rattle.lsys_front.specs.Repairs.{Repair, rest, were}
use Rattle.lsys_front.specs.Turned.{IsSameLevel}

-- The forest of the repair became this one, which has the new system's next level. By both kinds of nodes it was looked: the
-- touched ones, of which the others keep the children of the last rest; and the turned ones.
pub record IsNextMade (r : Repair) (h : Grove Kept) (by : Successors)
    (touched turned looked : List ℕ) : Type 0 where
  pub same : IsSameLevel r.forest h r.level
  pub sound : IsRooted h.root (changes_in h) (now_of h)
  pub levels : AreLevels r.new r.limit (r.level + 1) (now_of h) h.root
  pub replaced : (p k : ℕ) → slice_get (level_nodes (now_of h) h.root r.level) p ≡ Some k
      → replacement r.new r.level (level_of (now_of h) h.root r.level) p (node_symbol (now_of h) k)
      ≡ Ok (by k)
  pub touched_level : (q : ℕ) → In q touched → level_of_node h q ≡ r.level
  pub turned_level : (q : ℕ) → In q turned → level_of_node h q ≡ r.level
  pub families : (q : ℕ) → In q (level_nodes (now_of h) h.root r.level)
      → In q touched ⊎ (In q (were r) × KeepsChildren (rest r) (now_of h) q)
  pub around : (q : ℕ) → In q touched → LooksAround h q looked
  pub mates : (q : ℕ) → In q touched → LooksAtMate h q looked
  pub beyond : (q : ℕ) → In q turned → LooksBeyond h q looked
  pub branches : (q : ℕ) → In q turned → LooksInto h q looked
