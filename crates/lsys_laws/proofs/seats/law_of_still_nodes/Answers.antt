use Rattle.lsys_laws.proofs.Still.{still}
use Rattle.lsys_laws.proofs.seats.law_of_still_nodes.Goals as goal

pub returns : goal.returns
returns c = still
