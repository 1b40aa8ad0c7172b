use Rattle.lsys_laws.proofs.FirstFaults.{negation_first, inversion_first, binary_first, both_first, either_first}
use Rattle.lsys_laws.proofs.faults.law_of_value_faults.Goals as goal

pub returns : goal.returns
returns c = record { negation = negation_first; inversion = inversion_first; binary = binary_first; both = both_first; either = either_first }
