use Rattle.lsys_lattice.proofs.Planes.{led_in_plane, origin_in_plane}
use Rattle.lsys_lattice.proofs.Bounded.{none_far, first_part}
use Rattle.lsys_lattice.proofs.motions.law_of_far_modules.Goals as goal

pub returns-clause-near : goal.returns-clause-near
returns-clause-near c = none_far

pub returns-clause-first : goal.returns-clause-first
returns-clause-first c = first_part

pub returns-clause-plane : goal.returns-clause-plane
returns-clause-plane c = led_in_plane

pub returns-clause-start : goal.returns-clause-start
returns-clause-start c = origin_in_plane
