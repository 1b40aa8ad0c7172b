use Rattle.std.proofs.Common.{◌≡◌}
use Rattle.lsys_forest.specs.Stocks.{nodes_of, changes_of}
use Rattle.lsys_forest.specs.Groves.{IsRooted}
use Rattle.lsys_forest.specs.Ranks.{AreRanked, AreLinked}
use Rattle.lsys_forest.specs.Pairs.{AreMated}
use Rattle.lsys_forest.specs.Rows.{level_nodes}
use Rattle.lsys_forest.proofs.WalkLemmas.{left_from}
use Rattle.lsys_forest.proofs.MatedLemmas.{IsMating}
use Rattle.lsys_forest.proofs.pairs.mate_level.Given as goal

abbrev pub invariant-loop-at : goal.invariant-loop-at
invariant-loop-at g l = record {
  same : l.parts ≡ record l.fn.parts { footings = l.parts.footings };
  sound : IsRooted l.fn.root (changes_of l.parts) (nodes_of l.parts);
  ranked : AreRanked (nodes_of l.parts) l.parts.footings;
  linked : AreLinked (nodes_of l.parts) l.fn.root l.parts.footings l.linked;
  mated : AreMated (nodes_of l.parts) l.fn.root l.parts.footings l.level;
  mating : IsMating (nodes_of l.parts) l.fn.root l.level l.parts.footings l.opener l.at;
}

abbrev pub decreases-loop-at : goal.decreases-loop-at
decreases-loop-at g l = left_from (level_nodes (nodes_of l.fn.parts) l.fn.root l.level) l.at
