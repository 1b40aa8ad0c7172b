use Rattle.lsys_laws.proofs.Limits.{same_levels}
use Rattle.lsys_laws.proofs.children.law_of_one_level.Goals as goal

pub returns : goal.returns
returns c = same_levels
