use Rattle.lsys_syntax.proofs.Extents.{ends-whole, ends-last, stop-begins, stop-last, stop-whole, deep-begins, deep-none, deep-goes, ends-read}
use Rattle.lsys_syntax.proofs.WholeExpressions.{whole-found}
use Rattle.lsys_syntax.proofs.law_of_expression_places.Goals as goal

pub returns-clause-ends : goal.returns-clause-ends
returns-clause-ends c = ends-whole

pub returns-clause-none_longer : goal.returns-clause-none_longer
returns-clause-none_longer c = ends-last

pub returns-clause-before : goal.returns-clause-before
returns-clause-before c = stop-begins

pub returns-clause-none_goes_on : goal.returns-clause-none_goes_on
returns-clause-none_goes_on c = stop-last

pub returns-clause-not_whole : goal.returns-clause-not_whole
returns-clause-not_whole c = stop-whole

pub returns-clause-before_deep : goal.returns-clause-before_deep
returns-clause-before_deep c = deep-begins

pub returns-clause-none_within : goal.returns-clause-none_within
returns-clause-none_within c = deep-none

pub returns-clause-only_deep : goal.returns-clause-only_deep
returns-clause-only_deep c = deep-goes

pub returns-clause-whole : goal.returns-clause-whole
returns-clause-whole c = whole-found

pub returns-clause-read : goal.returns-clause-read
returns-clause-read c = ends-read
