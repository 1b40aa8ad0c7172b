use Rattle.lsys_spec.proofs.Contexts.{right_is}
use Rattle.lsys_spec.proofs.questions.law_of_right_contexts.Goals as goal

pub returns : goal.returns
returns c f d p r = right_is f d p r
