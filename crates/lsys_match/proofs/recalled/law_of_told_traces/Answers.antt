use Rattle.lsys_walks.proofs.Agreeing.{equal_traces}
use Rattle.lsys_match.proofs.Standing.{tags_agree}
use Rattle.lsys_match.proofs.recalled.law_of_told_traces.Goals as goal

pub returns : goal.returns
returns c old new t bs cs x y p q tag tag' m n a b naming h g f = equal_traces naming naming a b (tags_agree old new t bs cs x y p q tag tag' m n a b naming h g f)
