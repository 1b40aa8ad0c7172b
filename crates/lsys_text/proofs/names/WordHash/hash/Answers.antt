use Rattle.std.proofs.Common.{arith}
use Rattle.lsys_text.proofs.Kept.{number-of-text}
use Rattle.lsys_text.proofs.names.WordHash.hash.Goals as goal

pub returns : goal.returns
returns g c = grind (arith, number-of-text)
