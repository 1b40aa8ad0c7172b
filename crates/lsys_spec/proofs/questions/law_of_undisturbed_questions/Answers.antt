use Rattle.lsys_spec.proofs.Undisturbed.{same_at}
use Rattle.lsys_spec.proofs.questions.law_of_undisturbed_questions.Goals as goal

pub returns-clause-question : goal.returns-clause-question
returns-clause-question c old new t bs x y p q l m lx ly h g e k i all = (same_at old new t bs x y p q l m lx ly h g e k i all).same_question

pub returns-clause-choice : goal.returns-clause-choice
returns-clause-choice c old new t bs x y p q l m lx ly h g e k i all = (same_at old new t bs x y p q l m lx ly h g e k i all).same_choice
