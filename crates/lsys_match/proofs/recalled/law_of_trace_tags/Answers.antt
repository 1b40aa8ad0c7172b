use Rattle.lsys_match.proofs.Standing.{stands_there}
use Rattle.lsys_match.proofs.recalled.law_of_trace_tags.Goals as goal

pub returns : goal.returns
returns c s t bs row p tag m trace h k i = stands_there s t bs row p tag m trace h k i
