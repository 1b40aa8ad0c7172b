use Rattle.std.proofs.Common.{arith}
use Rattle.std.proofs.lemmas.Grind.{elements}
use Rattle.lsys_match.proofs.posed.key_for.Goals as goal

pub returns-then-is_weighted : goal.returns-then-is_weighted
returns-then-is_weighted g c = grind (arith, elements)
