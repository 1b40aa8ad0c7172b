use Rattle.lsys_spec.proofs.Numbered.{inserted}
use Rattle.lsys_spec.proofs.numbers.law_of_insertion.Goals as goal

pub returns : goal.returns
returns c = inserted
