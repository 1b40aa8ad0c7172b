use Rattle.lsys_spec.proofs.Frames.{frames-apart, frame_after-among}
use Rattle.lsys_spec.proofs.lattices.law_of_frames.Goals as goal

pub returns-clause-distinct : goal.returns-clause-distinct
returns-clause-distinct c lattice = frames-apart lattice

pub returns-clause-closed : goal.returns-clause-closed
returns-clause-closed c lattice turns = frame_after-among lattice turns
