use Rattle.std.proofs.Common.{arith}
use Rattle.std.proofs.lemmas.Grind.{elements}
use Rattle.lsys_motion.proofs.motions.refused.Goals as goal

pub returns-in-Far : goal.returns-in-Far
returns-in-Far c = grind (arith, elements)
