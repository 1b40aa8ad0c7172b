use Rattle.lsys_laws.proofs.Unspelled.{unspelled_stays}
use Rattle.lsys_laws.proofs.sessions.law_of_lines_without_command.Goals as goal

pub returns : goal.returns
returns c = unspelled_stays
