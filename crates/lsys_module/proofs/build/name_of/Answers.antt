use Rattle.std.proofs.Common.{arith}
use Rattle.std.proofs.lemmas.Grind.{common_steps}
use Rattle.lsys_module.proofs.build.name_of.Goals as goal

pub from_mark-requires : goal.from_mark-requires
from_mark-requires c = grind (arith, common_steps)

pub returns-in-Mark : goal.returns-in-Mark
returns-in-Mark c = grind (arith, common_steps)
