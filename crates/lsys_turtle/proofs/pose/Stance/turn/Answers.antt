use Rattle.std.proofs.Common.{rules}
use Rattle.lsys_turtle.proofs.pose.Stance.turn.Goals as goal

pub returns : goal.returns
returns g c = search rules
