use Rattle.lsys_front.proofs.Nodes.{candidates_are}
use Rattle.lsys_front.proofs.candidates.law_of_candidates.Goals as goal

pub returns : goal.returns
returns c = candidates_are
