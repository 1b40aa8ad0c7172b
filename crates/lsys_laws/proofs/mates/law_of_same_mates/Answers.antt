use Rattle.lsys_laws.proofs.Families.{mates_from, same_in_module, same_of_mates}
use Rattle.lsys_laws.proofs.mates.law_of_same_mates.Goals as goal

pub returns : goal.returns
returns c = record { from = mates_from; modules = same_in_module; brackets = same_of_mates }
