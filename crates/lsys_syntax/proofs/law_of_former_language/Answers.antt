use Rattle.lsys_syntax.proofs.Former.{former_spelled, former_begins, same_tokens}
use Rattle.lsys_syntax.proofs.law_of_former_language.Goals as goal

pub returns-clause-sentences : goal.returns-clause-sentences
returns-clause-sentences c = former_spelled

pub returns-clause-begins : goal.returns-clause-begins
returns-clause-begins c = former_begins

pub returns-clause-lines : goal.returns-clause-lines
returns-clause-lines c = same_tokens
