use Rattle.lsys_laws.proofs.Shifted.{same_named, same_first}
use Rattle.lsys_laws.proofs.pictures.law_of_acts.Goals as goal

pub returns : goal.returns
returns c = record { letters = same_named; parameters = same_first }
