use Rattle.std.proofs.Common.{length}
use Rattle.lsys_spec.proofs.Needs.{derived, need_within}
use Rattle.lsys_spec.proofs.questions.law_of_needs.Goals as goal

pub returns-clause-questions : goal.returns-clause-questions
returns-clause-questions c old new limit limit' xs ys w w' h h' = need_within (λ q. 1) old new xs ys (derived old limit xs w h) (derived new limit' ys w' h')

pub returns-clause-visits : goal.returns-clause-visits
returns-clause-visits c old new limit limit' xs ys w w' h h' = need_within (λ q. length q.trace) old new xs ys (derived old limit xs w h) (derived new limit' ys w' h')
