use Rattle.lsys_history.proofs.Spending.{line_levels}
use Rattle.lsys_history.proofs.law_of_desk_levels.Goals as goal

pub returns : goal.returns
returns c = line_levels
