use Rattle.lsys_syntax.proofs.ReadBack.{reads_back}
use Rattle.lsys_syntax.proofs.StringsRead.{string_law}
use Rattle.lsys_syntax.proofs.law_of_printed_tokens.Goals as goal

pub returns-clause-pieces : goal.returns-clause-pieces
returns-clause-pieces c = reads_back

pub returns-clause-strings : goal.returns-clause-strings
returns-clause-strings c = string_law
