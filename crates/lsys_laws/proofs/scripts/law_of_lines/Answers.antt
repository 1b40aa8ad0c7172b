use Rattle.lsys_laws.proofs.LinesOf.{lines_calm, lines_joined, whole_front, whole_among}
use Rattle.lsys_laws.proofs.scripts.law_of_lines.Goals as goal

pub returns : goal.returns
returns c = record { no_feed = lines_calm; joined = lines_joined; whole = whole_front; among = whole_among }
