use Rattle.lsys_laws.proofs.PlainSeeds.{ask_alike}
use Rattle.lsys_laws.proofs.seeds.law_of_plain_seeds.Goals as goal

pub returns : goal.returns
returns c = ask_alike
