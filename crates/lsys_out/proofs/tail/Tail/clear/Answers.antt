use Rattle.std.proofs.Common.{arith}
use Rattle.std.proofs.lemmas.List.{drop_all}
use Rattle.lsys_out.proofs.tail.Tail.clear.Goals as goal

pub returns-clause-text : goal.returns-clause-text
returns-clause-text c = drop_all 256 c.self.inside.bytes (omega arith)
