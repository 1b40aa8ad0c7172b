use Rattle.lsys_flat.proofs.Stepping.{goes_on, faults}
use Rattle.lsys_flat.proofs.steps.law_of_next_levels.Goals as goal

pub returns-clause-goes_on : goal.returns-clause-goes_on
returns-clause-goes_on c s t x p n raw a ys h g e = goes_on s t x p n raw a ys h g e

pub returns-clause-fault : goal.returns-clause-fault
returns-clause-fault c s t x p n raw a k h g e = faults s t x p n raw a k h g e
