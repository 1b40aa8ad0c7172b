use Rattle.std.proofs.Common.{arith}
use Rattle.std.proofs.lemmas.Grind.{common_steps}
use Rattle.lsys_forest.proofs.table.NodeTable.link.Goals as goal

pub returns-in_err-entry : goal.returns-in_err-entry
returns-in_err-entry g c = grind (arith, common_steps)

pub returns-in-Left : goal.returns-in-Left
returns-in-Left g c = grind (arith, common_steps)

pub returns-in-Right : goal.returns-in-Right
returns-in-Right g c = grind (arith, common_steps)
