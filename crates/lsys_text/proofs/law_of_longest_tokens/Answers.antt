use Rattle.lsys_text.proofs.Taken.{takes-longest, takes-any}
use Rattle.lsys_text.proofs.law_of_longest_tokens.Goals as goal

pub returns-clause-longest : goal.returns-clause-longest
returns-clause-longest c = takes-longest

pub returns-clause-refused : goal.returns-clause-refused
returns-clause-refused c = takes-any
