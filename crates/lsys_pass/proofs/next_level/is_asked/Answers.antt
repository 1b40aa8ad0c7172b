use Rattle.std.proofs.Common.{rules}
use Rattle.lsys_pass.proofs.next_level.is_asked.Goals as goal

pub returns : goal.returns
returns c = search rules
