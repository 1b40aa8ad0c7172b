use Rattle.std.proofs.Common.{rules, arith}
use Rattle.std.proofs.lemmas.Grind.{elements}
use Rattle.lsys_children.proofs.parent.fill_whole.Goals as goal

pub fill-requires : goal.fill-requires
fill-requires g c = grind (arith, elements)

pub returns-in-Some : goal.returns-in-Some
returns-in-Some g c = search rules
