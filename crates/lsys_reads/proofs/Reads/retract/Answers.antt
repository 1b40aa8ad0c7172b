use Rattle.std.proofs.Common.{rules}
use Rattle.lsys_reads.proofs.Reads.retract.Goals as goal

pub returns-clause-settled : goal.returns-clause-settled
returns-clause-settled c = search rules
