use Rattle.lsys_lattice.proofs.Rows.{are_carried}
use Rattle.lsys_lattice.proofs.Wholes.{are_seen}
use Rattle.lsys_lattice.proofs.motions.law_of_carried_extents.Goals as goal

pub returns-clause-frame : goal.returns-clause-frame
returns-clause-frame c l f e k = are_carried l f k e

pub returns-clause-stand : goal.returns-clause-stand
returns-clause-stand c l from o k = are_seen l from k o
