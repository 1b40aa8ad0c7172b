use Rattle.lsys_cli.proofs.Bounds.{bounded}
use Rattle.lsys_cli.proofs.options.law_of_limits.Goals as goal

pub returns : goal.returns
returns c = bounded
