use Rattle.lsys_forest.proofs.ViewLemmas.{told_is, are_told, is_spot}
use Rattle.lsys_forest.proofs.law.law_of_spots.Goals as goal

pub returns : goal.returns
returns g c = record { told = told_is; complete = are_told; spots = is_spot }
