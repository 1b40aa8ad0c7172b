use Rattle.std.proofs.Common.{rules}
use Rattle.lsys_expr.proofs.operators.remainder.Goals as goal

pub returns : goal.returns
returns c = search rules
