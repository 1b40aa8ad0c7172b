use Rattle.lsys_growth.proofs.ToldLevels.{within_depth}
use Rattle.lsys_growth.proofs.laws.law_of_depth.Goals as goal

pub returns : goal.returns
returns c = λ s limit t xs x h g. within_depth s limit xs h t x g
