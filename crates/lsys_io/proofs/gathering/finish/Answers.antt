use Rattle.std.proofs.Common.{rules}
use Rattle.lsys_io.proofs.gathering.finish.Goals as goal

pub returns-clause-finishes : goal.returns-clause-finishes
returns-clause-finishes c = search rules
