use Rattle.lsys_syntax.proofs.LineComplete.{command-sentence, one-command}
use Rattle.lsys_syntax.proofs.LineSound.{sentence-spelled}
use Rattle.lsys_syntax.proofs.law_of_sentences.Goals as goal

pub returns-clause-sentences : goal.returns-clause-sentences
returns-clause-sentences c = command-sentence

pub returns-clause-spelled : goal.returns-clause-spelled
returns-clause-spelled c = sentence-spelled

pub returns-clause-distinct : goal.returns-clause-distinct
returns-clause-distinct c = one-command
