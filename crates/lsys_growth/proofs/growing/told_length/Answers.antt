use Rattle.std.proofs.Common.{arith}
use Rattle.std.proofs.lemmas.Grind.{elements}
use Rattle.lsys_growth.proofs.growing.told_length.Goals as goal

pub returns : goal.returns
returns c = grind (arith, elements)
