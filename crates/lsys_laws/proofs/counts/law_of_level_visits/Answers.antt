use Rattle.std.proofs.Common.{length}
use Rattle.lsys_spec.specs.Questions.{questions}
use Rattle.lsys_laws.proofs.Sums.{more_visits, more_needs}
use Rattle.lsys_laws.proofs.counts.law_of_level_visits.Goals as goal

pub returns-clause-candidates : goal.returns-clause-candidates
returns-clause-candidates c old new xs ys z t e = more_visits (λ q. 1) old new xs ys z t e

pub returns-clause-visits : goal.returns-clause-visits
returns-clause-visits c old new xs ys z t e = more_visits (λ q. length q.trace) old new xs ys z t e

pub returns-clause-need : goal.returns-clause-need
returns-clause-need c old new xs ys z t e = more_needs (λ q. 1) (questions old xs) new ys z t e

pub returns-clause-least : goal.returns-clause-least
returns-clause-least c old new xs ys z t e = more_needs (λ q. length q.trace) (questions old xs) new ys z t e
