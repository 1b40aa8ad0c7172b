use Rattle.lsys_laws.proofs.Untouched.{exact}
use Rattle.lsys_laws.proofs.needs.law_of_exact_candidates.Goals as goal

pub returns : goal.returns
returns c = exact
