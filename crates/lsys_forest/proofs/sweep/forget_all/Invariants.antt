use Rattle.std.proofs.Common.{◌≡◌, length}
use Rattle.lsys_forest.specs.Slots.{live_slots}
use Rattle.lsys_forest.specs.Stocks.{nodes_of, changes_of, KeepsRoom}
use Rattle.lsys_forest.specs.Answers.{answers, LiveApart, FreesUnheld}
use Rattle.lsys_forest.proofs.sweep.forget_all.Given as goal

abbrev pub invariant-loop : goal.invariant-loop
invariant-loop g l = record {
  nodes : nodes_of l.parts ≡ nodes_of l.fn.parts;
  footings : l.parts.footings ≡ l.fn.parts.footings;
  live : live_slots l.parts.slots ≡ live_slots l.fn.parts.slots;
  room : KeepsRoom l.fn.parts l.parts;
  made : LiveApart g.A.Kept.run_at g.A.Kept.Holds l.store (answers (nodes_of l.parts) (changes_of l.parts));
  freed : FreesUnheld g.A.Kept.run_at g.A.Kept.Holds (answers (nodes_of l.fn.parts) (changes_of l.fn.parts)) l.fn.store (answers (nodes_of l.parts) (changes_of l.parts)) l.store;
}

abbrev pub decreases-loop : goal.decreases-loop
decreases-loop g l = length l.parts.notes
