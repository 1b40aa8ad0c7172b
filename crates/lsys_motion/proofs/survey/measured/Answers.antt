use Rattle.std.proofs.Common.{rules}
use Rattle.lsys_motion.proofs.survey.measured.Goals as goal

pub returns : goal.returns
returns g c = search rules
