use Rattle.std.proofs.Common.{rules}
use Rattle.lsys_cli.proofs.setting.limit.Goals as goal

pub returns-then-contains : goal.returns-then-contains
returns-then-contains c = search rules
