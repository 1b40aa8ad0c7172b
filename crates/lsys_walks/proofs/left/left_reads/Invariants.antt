use Rattle.std.proofs.Common.{◌≡◌, ◌+◌, length, map}
use Rattle.lsys_spec.specs.Meaning.{ignored_by, most_entries}
use Rattle.lsys_level.specs.Spots.{IsSpot, spots_at}
use Rattle.lsys_bodies.specs.Filters.{filter_of}
use Rattle.lsys_bodies.specs.Views.{as_pattern}
use Rattle.lsys_walks.specs.Views.{mark_of}
use Rattle.lsys_walks.proofs.Lefts.{Walk}
use Rattle.lsys_walks.proofs.left.left_reads.Given as goal

-- the walk has come to this spot of the level
abbrev pub invariant-loop-due : goal.invariant-loop-due
invariant-loop-due g l =
    (g.W.LevelView.level_of l.view l.at ≡ g.W.LevelView.level_of l.view l.fn.spot)
    × IsSpot (g.W.LevelView.levels l.view) (g.W.LevelView.level_of l.view l.at) (g.W.LevelView.place_of l.view l.at)
    × Walk (ignored_by (filter_of l.filter)) (mark_of l.mark) (map as_pattern l.patterns) (spots_at (g.W.LevelView.levels l.view) (g.W.LevelView.level_of l.view l.fn.spot))
    (g.W.LevelView.place_of l.view l.fn.spot) (g.W.LevelView.place_of l.view l.at) l.due most_entries l.fn.trace.read l.trace.read l.fn.bound.items l.bound.items
    × (l.visited + length l.fn.trace.read ≡ l.fn.visited + length l.trace.read)
    × (l.trace.old ≡ l.fn.trace.old)

abbrev pub decreases-loop-due : goal.decreases-loop-due
decreases-loop-due g l = g.W.LevelView.place_of l.view l.at
