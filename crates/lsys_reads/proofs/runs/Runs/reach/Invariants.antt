use Rattle.std.proofs.Common.{◌≡◌, ◌≤◌, ◌-◌, ◌+◌, length}
use Rattle.lsys_reads.specs.Runs.{LieWithin, SightsStay}
use Rattle.lsys_reads.proofs.RunLemmas.{sights_of}
use Rattle.lsys_reads.proofs.runs.Runs.reach.Given as goal

abbrev pub invariant-loop-self : goal.invariant-loop-self
invariant-loop-self l = record {
  stay : SightsStay (sights_of l.initial.self-inside.cells.items l.initial.self-inside.runs.items 0) (sights_of l.initial.self-inside.cells.items l.self-inside.runs.items 0);
  longer : length l.initial.self-inside.runs.items ≤ length l.self-inside.runs.items;
  cells : l.self-inside.cells ≡ l.initial.self-inside.cells;
  within : LieWithin l.self-inside.runs.items (length l.self-inside.cells.items);
}

abbrev pub decreases-loop-self : goal.decreases-loop-self
decreases-loop-self l = l.last + 1 - length l.self-inside.runs.items
