use Rattle.lsys_spec.proofs.Frames.{frame_after-upright}
use Rattle.lsys_spec.proofs.lattices.law_of_upright_frames.Goals as goal

pub returns : goal.returns
returns c lattice turns = frame_after-upright lattice turns
