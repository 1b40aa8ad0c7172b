use Rattle.std.proofs.Common.{◌≡◌, ◌-◌}
use Rattle.lsys_forest.specs.Stocks.{nodes_of, changes_of}
use Rattle.lsys_forest.specs.Groves.{IsRooted}
use Rattle.lsys_forest.specs.Ranks.{AreRanked, AreLinked, KeepsMates}
use Rattle.lsys_forest.specs.Rows.{level_nodes}
use Rattle.lsys_forest.proofs.WalkLemmas.{left_from}
use Rattle.lsys_forest.proofs.LinkLemmas.{IsLinking}
use Rattle.lsys_forest.proofs.link.link_level.Given as goal

abbrev pub invariant-loop-at : goal.invariant-loop-at
invariant-loop-at g l = record {
  same : l.parts ≡ record l.fn.parts { footings = l.parts.footings };
  sound : IsRooted l.fn.root (changes_of l.parts) (nodes_of l.parts);
  ranked : AreRanked (nodes_of l.parts) l.parts.footings;
  mates : KeepsMates l.fn.parts.footings l.parts.footings;
  linked : AreLinked (nodes_of l.parts) l.fn.root l.parts.footings l.level;
  linking : IsLinking (nodes_of l.parts) l.fn.root (l.level - 1) l.parts.footings l.before l.at;
}

abbrev pub decreases-loop-at : goal.decreases-loop-at
decreases-loop-at g l = left_from (level_nodes (nodes_of l.fn.parts) l.fn.root (l.level - 1)) l.at
