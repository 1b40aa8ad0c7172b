use Rattle.std.proofs.Common.{arith}
use Rattle.std.proofs.lemmas.Grind.{common_steps}
use Rattle.lsys_reading.proofs.refusal.PartRefusal.from_place.Goals as goal

pub returns-in-Token : goal.returns-in-Token
returns-in-Token c = grind (arith, common_steps)
