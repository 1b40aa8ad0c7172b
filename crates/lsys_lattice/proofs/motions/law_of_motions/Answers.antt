use Rattle.std.proofs.Common.{refl}
use Rattle.lsys_lattice.proofs.Joining.{motion_branched, motion_module}
use Rattle.lsys_lattice.proofs.Wholes.{whole_motion, made_motion, either_way, rest_before, rest_after, bounds_told}
use Rattle.lsys_lattice.proofs.motions.law_of_motions.Goals as goal

pub returns-clause-joined : goal.returns-clause-joined
returns-clause-joined c = whole_motion

pub returns-clause-made : goal.returns-clause-made
returns-clause-made c = made_motion

pub returns-clause-associative : goal.returns-clause-associative
returns-clause-associative c = either_way

pub returns-clause-rest_before : goal.returns-clause-rest_before
returns-clause-rest_before c = rest_before

pub returns-clause-rest_after : goal.returns-clause-rest_after
returns-clause-rest_after c = rest_after

pub returns-clause-branch : goal.returns-clause-branch
returns-clause-branch c = motion_branched

pub returns-clause-module : goal.returns-clause-module
returns-clause-module c = motion_module

pub returns-clause-mark : goal.returns-clause-mark
returns-clause-mark c l = refl

pub returns-clause-rest : goal.returns-clause-rest
returns-clause-rest c l = refl

pub returns-clause-bounds : goal.returns-clause-bounds
returns-clause-bounds c = bounds_told
