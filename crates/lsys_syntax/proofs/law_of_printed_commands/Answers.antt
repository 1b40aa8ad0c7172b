use Rattle.lsys_syntax.proofs.LineReads.{line-reads}
use Rattle.lsys_syntax.proofs.law_of_printed_commands.Goals as goal

pub returns : goal.returns
returns c = line-reads
