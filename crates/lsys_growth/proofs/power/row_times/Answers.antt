use Rattle.std.proofs.Common.{arith}
use Rattle.std.proofs.lemmas.Grind.{common_steps}
use Rattle.lsys_growth.proofs.power.row_times.Goals as goal

pub returns-in_err-push_row-clause-count : goal.returns-in_err-push_row-clause-count
returns-in_err-push_row-clause-count g c = grind (arith, common_steps)
