use Rattle.lsys_spec.proofs.Needs.{derived}
use Rattle.lsys_spec.proofs.Answered.{answered}
use Rattle.lsys_spec.proofs.questions.law_of_answered_questions.Goals as goal

pub returns : goal.returns
returns c old new limit limit' xs ys w w' h h' i q g = answered old new xs ys (derived old limit xs w h) (derived new limit' ys w' h') i q g
