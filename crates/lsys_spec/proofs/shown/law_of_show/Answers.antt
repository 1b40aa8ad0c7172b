use Rattle.lsys_spec.proofs.ShownBack.{shown-back, shown-plain}
use Rattle.lsys_spec.proofs.Sampled.{sample-well_formed, sample-well_spelled}
use Rattle.lsys_spec.proofs.shown.law_of_show.Goals as goal

pub returns-clause-read_back : goal.returns-clause-read_back
returns-clause-read_back c = shown-back

pub returns-clause-example : goal.returns-clause-example
returns-clause-example c = (sample-well_formed, sample-well_spelled)

pub returns-clause-plain : goal.returns-clause-plain
returns-clause-plain c = shown-plain
