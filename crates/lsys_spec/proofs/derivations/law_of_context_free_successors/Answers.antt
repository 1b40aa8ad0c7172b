use Rattle.lsys_spec.proofs.ContextFree.{successor_free}
use Rattle.lsys_spec.proofs.derivations.law_of_context_free_successors.Goals as goal

pub returns : goal.returns
returns c = successor_free
