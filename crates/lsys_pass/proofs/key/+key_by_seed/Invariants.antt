use Rattle.lsys_forest.specs.Groves.{now_of}
use Rattle.lsys_forest.specs.Rows.{depth_in}
use Rattle.lsys_pass.proofs.key.+key_by_seed.Given as goal

abbrev pub decreases-key_by_seed : goal.decreases-key_by_seed
decreases-key_by_seed g l = depth_in (now_of l.forest.now l.node)
