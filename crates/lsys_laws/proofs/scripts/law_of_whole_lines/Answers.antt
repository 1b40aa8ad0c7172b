use Rattle.lsys_laws.proofs.LinesOf.{front_replies}
use Rattle.lsys_laws.proofs.scripts.law_of_whole_lines.Goals as goal

pub returns : goal.returns
returns c = front_replies
