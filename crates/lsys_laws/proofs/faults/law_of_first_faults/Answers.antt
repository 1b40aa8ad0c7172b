use Rattle.lsys_laws.proofs.FirstFaults.{params_first, successor_first}
use Rattle.lsys_laws.proofs.faults.law_of_first_faults.Goals as goal

pub returns : goal.returns
returns c = record { parameters = params_first; successor = successor_first }
