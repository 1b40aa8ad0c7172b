use Rattle.lsys_match.proofs.Staying.{own_runs, stays_kept, stays_new, stays_released}
use Rattle.lsys_match.proofs.law.law_of_kept_answers.Goals as goal

pub returns-clause-new : goal.returns-clause-new
returns-clause-new c = stays_new

pub returns-clause-own : goal.returns-clause-own
returns-clause-own c = own_runs

pub returns-clause-released : goal.returns-clause-released
returns-clause-released c = stays_released

pub returns-clause-stays : goal.returns-clause-stays
returns-clause-stays c = stays_kept
