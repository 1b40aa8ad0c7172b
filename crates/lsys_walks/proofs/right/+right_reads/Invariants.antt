use Rattle.std.proofs.Common.{◌≡◌, ◌+◌, ◌-◌, ◌*◌, ◌≤◌, ℕ, List, length, take}
use Rattle.lsys_spec.specs.Meaning.{ignored_by, most_entries}
use Rattle.lsys_level.specs.Spots.{spots_at}
use Rattle.lsys_bodies.specs.Filters.{filter_of}
use Rattle.lsys_walks.specs.Views.{mark_of}
use Rattle.lsys_walks.proofs.Shown.{IsAt, place_at}
use Rattle.lsys_walks.proofs.Rights.{Walk}
use Rattle.lsys_walks.proofs.right.+right_reads.Given as goal

abbrev pub decreases-right_reads : goal.decreases-right_reads
decreases-right_reads g l = 2 * (length l.items.now - l.first) + 1

abbrev pub decreases-inner_reads : goal.decreases-inner_reads
decreases-inner_reads g l = 2 * (length l.items.now - l.next)

-- the walk has come to this place of the level and this one of the items
abbrev pub invariant-right_reads-loop-mark : goal.invariant-right_reads-loop-mark
invariant-right_reads-loop-mark g l =
    IsAt (g.W.LevelView.levels l.view) (g.W.LevelView.level_of l.view) (g.W.LevelView.place_of l.view) (g.W.LevelView.level_of l.view l.fn.spot) l.at
    × (l.first ≤ l.next)
    × (l.next ≤ length l.items)
    × (length l.trace.read ≤ most_entries)
    × ((naming : ℕ → List ℕ) → Walk (ignored_by (filter_of l.filter)) (mark_of l.mark) (spots_at (g.W.LevelView.levels l.view) (g.W.LevelView.level_of l.view l.fn.spot)) l.items naming
    l.first (g.W.LevelView.place_of l.view l.fn.spot + 1) l.next (place_at (g.W.LevelView.levels l.view) (g.W.LevelView.level_of l.view) (g.W.LevelView.place_of l.view) (g.W.LevelView.level_of l.view l.fn.spot) l.at)
    l.fn.trace.read l.trace.read l.fn.bound.items l.bound.items)
    × (take (length l.fn.bound.items) l.bound.items ≡ l.fn.bound.items)
    × (l.visited + length l.fn.trace.read ≡ l.fn.visited + length l.trace.read)
    × (l.trace.old ≡ l.fn.trace.old)

abbrev pub decreases-right_reads-loop-mark : goal.decreases-right_reads-loop-mark
decreases-right_reads-loop-mark g l =
    length (spots_at (g.W.LevelView.levels l.view) (g.W.LevelView.level_of l.view l.fn.spot)) - place_at (g.W.LevelView.levels l.view) (g.W.LevelView.level_of l.view) (g.W.LevelView.place_of l.view) (g.W.LevelView.level_of l.view l.fn.spot) l.at
