use Rattle.std.proofs.Common.{◌≡◌, ◌≤◌, length}
use Rattle.lsys_forest.specs.Slots.{live_slots}
use Rattle.lsys_forest.specs.Changes.{undone}
use Rattle.lsys_forest.specs.Stocks.{nodes_of, changes_of, KeepsRoom}
use Rattle.lsys_forest.specs.Answers.{answers, LiveApart, FreesUnheld}
use Rattle.lsys_forest.specs.Groves.{AreSound}
use Rattle.lsys_forest.specs.Ranks.{AreRanked, AreLinked}
use Rattle.lsys_forest.proofs.undo.undo_all.Given as goal

abbrev pub invariant-loop-root : goal.invariant-loop-root
invariant-loop-root g l = record {
  sound : AreSound l.root (changes_of l.parts) (nodes_of l.parts);
  ranked : AreRanked (nodes_of l.parts) l.parts.footings;
  linked : AreLinked (nodes_of l.parts) l.root l.parts.footings l.linked;
  told : undone (changes_of l.parts) (nodes_of l.parts) ≡ undone (changes_of l.fn.parts) (nodes_of l.fn.parts);
  live : live_slots l.parts.slots ≤ live_slots l.fn.parts.slots;
  room : KeepsRoom l.fn.parts l.parts;
  made : LiveApart g.A.Kept.run_at g.A.Kept.Holds l.store (answers (nodes_of l.parts) (changes_of l.parts));
  freed : FreesUnheld g.A.Kept.run_at g.A.Kept.Holds (answers (nodes_of l.fn.parts) (changes_of l.fn.parts)) l.fn.store (answers (nodes_of l.parts) (changes_of l.parts)) l.store;
}

abbrev pub decreases-loop-root : goal.decreases-loop-root
decreases-loop-root g l = length l.parts.notes
