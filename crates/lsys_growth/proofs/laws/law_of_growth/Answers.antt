use Rattle.lsys_growth.proofs.LevelCounts.{level_counts}
use Rattle.lsys_growth.proofs.laws.law_of_growth.Goals as goal

pub returns : goal.returns
returns c = level_counts
