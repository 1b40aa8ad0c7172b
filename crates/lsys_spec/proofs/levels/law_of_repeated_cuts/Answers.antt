use Rattle.lsys_spec.specs.Cuts.{cut}
use Rattle.lsys_spec.proofs.Cutting.{cut_plain}
use Rattle.lsys_spec.proofs.levels.law_of_repeated_cuts.Goals as goal

pub returns-clause-without_cuts : goal.returns-clause-without_cuts
returns-clause-without_cuts c y = cut_plain y

pub returns-clause-twice : goal.returns-clause-twice
returns-clause-twice c x = cut_plain (cut x)
