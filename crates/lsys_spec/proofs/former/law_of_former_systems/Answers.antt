use Rattle.lsys_spec.proofs.Keys.{near_key}
use Rattle.lsys_spec.proofs.FormerSystems.{stays, keeps_own, keeps_numbering, refuses, ignores_listed, numbers_placed, shows}
use Rattle.lsys_spec.proofs.former.law_of_former_systems.Goals as goal

pub returns-clause-stays : goal.returns-clause-stays
returns-clause-stays c = stays

pub returns-clause-keeps_own : goal.returns-clause-keeps_own
returns-clause-keeps_own c = keeps_own

pub returns-clause-keeps_numbering : goal.returns-clause-keeps_numbering
returns-clause-keeps_numbering c = keeps_numbering

pub returns-clause-refuses : goal.returns-clause-refuses
returns-clause-refuses c = refuses

pub returns-clause-ignores : goal.returns-clause-ignores
returns-clause-ignores c = ignores_listed

pub returns-clause-numbers : goal.returns-clause-numbers
returns-clause-numbers c = numbers_placed

pub returns-clause-shows : goal.returns-clause-shows
returns-clause-shows c = shows

pub returns-clause-keys : goal.returns-clause-keys
returns-clause-keys c = near_key
