use Rattle.std.proofs.Common.{rules}
use Rattle.lsys_out.proofs.svg.put_line.Goals as goal

pub returns : goal.returns
returns g c = search rules
