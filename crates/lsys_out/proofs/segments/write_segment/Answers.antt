use Rattle.std.proofs.Common.{arith}
use Rattle.std.proofs.lemmas.Grind.{common_steps}
use Rattle.lsys_out.proofs.segments.write_segment.Goals as goal

pub returns : goal.returns
returns c = grind (arith, common_steps)
