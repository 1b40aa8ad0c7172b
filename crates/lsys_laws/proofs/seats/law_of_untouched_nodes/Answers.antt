use Rattle.lsys_laws.proofs.UntouchedNodes.{untouched}
use Rattle.lsys_laws.proofs.seats.law_of_untouched_nodes.Goals as goal

pub returns : goal.returns
returns c = untouched
