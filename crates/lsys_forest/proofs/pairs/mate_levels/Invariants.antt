use Rattle.std.proofs.Common.{◌≡◌, ◌-◌, ◌<◌}
use Rattle.lsys_spec.specs.Rows.{first_in}
use Rattle.lsys_forest.specs.Stocks.{nodes_of, changes_of}
use Rattle.lsys_forest.specs.Groves.{IsRooted}
use Rattle.lsys_forest.specs.Ranks.{AreRanked, AreLinked}
use Rattle.lsys_forest.specs.Pairs.{AreMated}
use Rattle.lsys_forest.specs.Rows.{level_nodes}
use Rattle.lsys_forest.proofs.pairs.mate_levels.Given as goal

abbrev pub invariant-loop-at : goal.invariant-loop-at
invariant-loop-at g l = record {
  same : l.parts ≡ record l.fn.parts { footings = l.parts.footings };
  sound : IsRooted l.root (changes_of l.parts) (nodes_of l.parts);
  ranked : AreRanked (nodes_of l.parts) l.parts.footings;
  linked : AreLinked (nodes_of l.parts) l.root l.parts.footings l.linked;
  mated : AreMated (nodes_of l.parts) l.root l.parts.footings l.level;
  within : l.level < l.linked;
  first : l.at ≡ first_in (level_nodes (nodes_of l.parts) l.root l.level);
}

abbrev pub decreases-loop-at : goal.decreases-loop-at
decreases-loop-at g l = l.linked - l.level
