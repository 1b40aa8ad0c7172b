use Rattle.lsys_spec.proofs.Ignoring.{level_same, questions_same, absent_alike}
use Rattle.lsys_spec.proofs.IgnoringLevels.{meaning_and_questions}
use Rattle.lsys_spec.proofs.derivations.law_of_ignored_names.Goals as goal

pub returns : goal.returns
returns c = record { meaning = meaning_and_questions; level = level_same; questions = questions_same; absent = absent_alike }
