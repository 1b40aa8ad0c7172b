use Rattle.lsys_spec.proofs.Contexts.{contexts_are}
use Rattle.lsys_spec.proofs.questions.law_of_contexts.Goals as goal

pub returns : goal.returns
returns c f d b own x p = contexts_are f d b own x p
