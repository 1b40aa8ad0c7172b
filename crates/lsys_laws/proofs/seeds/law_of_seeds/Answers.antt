use Rattle.lsys_laws.proofs.Keys.{key_back}
use Rattle.lsys_laws.proofs.seeds.law_of_seeds.Goals as goal

pub returns : goal.returns
returns c = key_back
