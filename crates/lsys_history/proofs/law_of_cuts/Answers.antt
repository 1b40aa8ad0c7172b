use Rattle.lsys_history.proofs.Cutting.{front_replies}
use Rattle.lsys_history.proofs.law_of_cuts.Goals as goal

pub returns : goal.returns
returns c = front_replies
