use Rattle.std.proofs.Common.{arith}
use Rattle.std.proofs.lemmas.Grind.{elements}
use Rattle.lsys_module.proofs.scan.Progress.may_end.Goals as goal

pub returns-in-Between : goal.returns-in-Between
returns-in-Between c = grind (arith, elements)
