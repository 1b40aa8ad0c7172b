use Rattle.std.proofs.Common.{arith}
use Rattle.std.proofs.lemmas.Grind.{elements}
use Rattle.lsys_children.proofs.opens.is_open.Goals as goal

pub reaches_end-requires : goal.reaches_end-requires
reaches_end-requires g c = grind (arith, elements)

pub returns-in-Push : goal.returns-in-Push
returns-in-Push g c = grind (arith, elements)
