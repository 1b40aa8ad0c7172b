use Rattle.lsys_spec.proofs.Applied.{written-back}
use Rattle.lsys_module.proofs.WrittenStrings.{string-read}
use Rattle.lsys_module.proofs.law_of_printed_strings.Goals as goal

pub returns-clause-read : goal.returns-clause-read
returns-clause-read c = string-read

pub returns-clause-values : goal.returns-clause-values
returns-clause-values c = written-back
