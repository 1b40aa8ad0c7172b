use Rattle.std.proofs.Common.{arith}
use Rattle.std.proofs.lemmas.Grind.{elements}
use Rattle.lsys_level.proofs.place.KeptSymbol.of.Goals as goal

pub returns-in-Module : goal.returns-in-Module
returns-in-Module c = grind (arith, elements)
