use Rattle.lsys_spec.proofs.Keys.{near_key, far_key}
use Rattle.lsys_spec.proofs.draws.law_of_number_keys.Goals as goal

pub returns-clause-by_place : goal.returns-clause-by_place
returns-clause-by_place c = near_key

pub returns-clause-by_name : goal.returns-clause-by_name
returns-clause-by_name c = far_key
