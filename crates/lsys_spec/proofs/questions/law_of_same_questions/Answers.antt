use Rattle.lsys_spec.proofs.Undisturbed.{choice_told, successor_told}
use Rattle.lsys_spec.proofs.questions.law_of_same_questions.Goals as goal

pub returns-clause-choice : goal.returns-clause-choice
returns-clause-choice c old new t t' bs bs' x y p q l l' m m' e = choice_told old new t t' bs bs' x y p q l l' m m' e

pub returns-clause-successor : goal.returns-clause-successor
returns-clause-successor c old new t t' x y p q l l' m m' e = successor_told old new t t' x y p q l l' m m' e
