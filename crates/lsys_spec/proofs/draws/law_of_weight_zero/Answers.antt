use Rattle.lsys_spec.specs.Draws.{aim_of}
use Rattle.lsys_spec.proofs.Picks.{weight_past}
use Rattle.lsys_spec.proofs.draws.law_of_weight_zero.Goals as goal

pub returns : goal.returns
returns c draw weights place e = weight_past (aim_of draw weights) weights place e
