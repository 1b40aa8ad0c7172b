use Rattle.std.proofs.Common.{arith}
use Rattle.std.proofs.lemmas.Grind.{common_steps}
use Rattle.lsys_forest.proofs.table.NodeTable.reserve.Goals as goal

pub returns-then-has_numbers-clause-room : goal.returns-then-has_numbers-clause-room
returns-then-has_numbers-clause-room g c = grind (arith, common_steps)
