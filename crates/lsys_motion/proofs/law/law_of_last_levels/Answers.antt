use Rattle.lsys_motion.proofs.Lasts.{has_last, last_same}
use Rattle.lsys_motion.proofs.law.law_of_last_levels.Goals as goal

pub returns-clause-has : goal.returns-clause-has
returns-clause-has c = has_last

pub returns-clause-same : goal.returns-clause-same
returns-clause-same c = last_same
