use Rattle.std.proofs.Common.{rules}
use Rattle.lsys_reading.proofs.patterns.Standing.opening.Goals as goal

pub returns-in-Push : goal.returns-in-Push
returns-in-Push c = search rules
