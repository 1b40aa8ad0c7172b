use Rattle.lsys_spec.proofs.Contexts.{left_is}
use Rattle.lsys_spec.proofs.questions.law_of_left_contexts.Goals as goal

pub returns : goal.returns
returns c f d qs x p = left_is f d qs x p
