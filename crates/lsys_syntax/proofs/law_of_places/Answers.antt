use Rattle.lsys_syntax.proofs.Places.{stop-before, stop-at, stop-end, deep-before, deep-none, deep-at}
use Rattle.lsys_syntax.proofs.law_of_places.Goals as goal

pub returns-clause-before : goal.returns-clause-before
returns-clause-before c = stop-before

pub returns-clause-none_goes_on : goal.returns-clause-none_goes_on
returns-clause-none_goes_on c = stop-at

pub returns-clause-at_the_end : goal.returns-clause-at_the_end
returns-clause-at_the_end c = stop-end

pub returns-clause-before_deep : goal.returns-clause-before_deep
returns-clause-before_deep c = deep-before

pub returns-clause-none_within : goal.returns-clause-none_within
returns-clause-none_within c = deep-none

pub returns-clause-only_deep : goal.returns-clause-only_deep
returns-clause-only_deep c = deep-at
