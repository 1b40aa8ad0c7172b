use Rattle.std.proofs.Common.{arith}
use Rattle.std.proofs.lemmas.Grind.{common_steps}
use Rattle.lsys_rules.proofs.show_rules.put_kind.Goals as goal

pub returns-in-Mark : goal.returns-in-Mark
returns-in-Mark g c = grind (arith, common_steps)
