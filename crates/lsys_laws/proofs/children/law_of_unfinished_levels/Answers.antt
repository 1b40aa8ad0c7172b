use Rattle.lsys_laws.proofs.UpTo.{level_count, grown_to, disturbed_to}
use Rattle.lsys_laws.proofs.children.law_of_unfinished_levels.Goals as goal

pub returns : goal.returns
returns c = record { count = level_count; levels = grown_to; disturbed = disturbed_to }
