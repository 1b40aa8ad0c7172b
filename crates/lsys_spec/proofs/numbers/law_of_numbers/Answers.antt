use Rattle.lsys_spec.proofs.Numbered.{placed, named}
use Rattle.lsys_spec.proofs.numbers.law_of_numbers.Goals as goal

pub returns-clause-by_places : goal.returns-clause-by_places
returns-clause-by_places c = placed

pub returns-clause-by_names : goal.returns-clause-by_names
returns-clause-by_names c = named
