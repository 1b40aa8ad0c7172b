use Rattle.lsys_laws.proofs.Members.{among}
use Rattle.lsys_laws.proofs.needs.law_of_known_questions.Goals as goal

pub returns : goal.returns
returns c = among
