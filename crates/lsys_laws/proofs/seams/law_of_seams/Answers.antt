use Rattle.lsys_laws.proofs.Joints.{seamed}
use Rattle.lsys_laws.proofs.Mirrors.{seamed_left}
use Rattle.lsys_laws.proofs.seams.law_of_seams.Goals as goal

pub returns : goal.returns
returns c = record { right = seamed; left = seamed_left }
