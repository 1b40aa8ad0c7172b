use Rattle.lsys_flat.proofs.CountedLevels.{counted_news, counted_all}
use Rattle.lsys_flat.proofs.counted.law_of_counts.Goals as goal

pub returns-clause-need : goal.returns-clause-need
returns-clause-need c = counted_news

pub returns-clause-all : goal.returns-clause-all
returns-clause-all c = counted_all
