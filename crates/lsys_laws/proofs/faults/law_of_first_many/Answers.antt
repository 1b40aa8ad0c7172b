use Rattle.lsys_laws.proofs.LeastMany.{many_least, many_none, production_least}
use Rattle.lsys_laws.proofs.faults.law_of_first_many.Goals as goal

pub returns : goal.returns
returns c = record { told = many_least; none = many_none; production = production_least }
