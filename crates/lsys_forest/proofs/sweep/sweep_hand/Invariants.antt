use Rattle.std.proofs.Common.{◌≡◌, List, length, drop}
use Rattle.lsys_forest.specs.declared.node.Footing.{Footing}
use Rattle.lsys_forest.specs.Nodes.{Nodes}
use Rattle.lsys_forest.specs.Changes.{Change}
use Rattle.lsys_forest.specs.Stocks.{nodes_of, changes_of}
use Rattle.lsys_forest.specs.Answers.{answers, LiveApart, FreesUnheld}
use Rattle.lsys_forest.specs.Groves.{IsRooted}
use Rattle.lsys_forest.specs.Sweeps.{IsSweptOf, KeepsPlaces}
use Rattle.lsys_forest.proofs.sweep.sweep_hand.Given as goal

abbrev pub invariant-loop-place : goal.invariant-loop-place
invariant-loop-place g l = record {
  swept : (first : Nodes g.row.A.Denot) (before : List (Change g.row.A.Denot)) (stood : List Footing) → IsRooted l.root before first → IsSweptOf first stood l.root l.fn.parts l.fn.parts.hand → IsSweptOf first stood l.root l.parts (drop l.place l.fn.parts.hand);
  keeps : KeepsPlaces l.fn.parts l.parts;
  made : LiveApart g.A.Kept.run_at g.A.Kept.Holds l.store (answers (nodes_of l.parts) (changes_of l.parts));
  freed : FreesUnheld g.A.Kept.run_at g.A.Kept.Holds (answers (nodes_of l.fn.parts) (changes_of l.fn.parts)) l.fn.store (answers (nodes_of l.parts) (changes_of l.parts)) l.store;
  end : l.place-end ≡ length l.fn.parts.hand;
}
