use Rattle.std.proofs.Common.{◌≤◌, ◌+◌, [], length}
use Rattle.lsys_forest.specs.Slots.{live_slots}
use Rattle.lsys_forest.specs.Stocks.{nodes_of, changes_of, KeepsRoom}
use Rattle.lsys_forest.specs.Answers.{answers, LiveApart, FreesUnheld}
use Rattle.lsys_forest.specs.Sweeps.{IsSweptOf}
use Rattle.lsys_forest.proofs.sweep.sweep_named.Given as goal

abbrev pub invariant-loop-look : goal.invariant-loop-look
invariant-loop-look g l = record {
  swept : IsSweptOf (nodes_of l.fn.parts) l.fn.parts.footings l.root l.parts [];
  places : live_slots l.parts.slots ≤ l.parts.note_room;
  live : live_slots l.parts.slots ≤ live_slots l.fn.parts.slots;
  room : KeepsRoom l.fn.parts l.parts;
  made : LiveApart g.A.Kept.run_at g.A.Kept.Holds l.store (answers (nodes_of l.parts) (changes_of l.parts));
  freed : FreesUnheld g.A.Kept.run_at g.A.Kept.Holds (answers (nodes_of l.fn.parts) (changes_of l.fn.parts)) l.fn.store (answers (nodes_of l.parts) (changes_of l.parts)) l.store;
}

abbrev pub decreases-loop-look : goal.decreases-loop-look
decreases-loop-look g l = length l.parts.notes + live_slots l.parts.slots
