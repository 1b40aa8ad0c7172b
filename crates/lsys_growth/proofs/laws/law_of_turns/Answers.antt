use Rattle.lsys_growth.proofs.Powers.{run_turns}
use Rattle.lsys_growth.proofs.laws.law_of_turns.Goals as goal

pub returns : goal.returns
returns c = λ k n a b h f. run_turns k a n b h (record { is = f })
