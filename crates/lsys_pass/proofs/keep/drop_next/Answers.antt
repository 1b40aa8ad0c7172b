use Rattle.std.proofs.Common.{refl}
use Rattle.lsys_pass.proofs.keep.drop_next.Goals as goal

pub returns : goal.returns
returns c = refl
