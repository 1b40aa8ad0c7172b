use Rattle.lsys_lattice.proofs.Strides.{led_there, course_inside}
use Rattle.lsys_lattice.proofs.motions.law_of_strides.Goals as goal

pub returns-clause-effect : goal.returns-clause-effect
returns-clause-effect c = led_there

pub returns-clause-inside : goal.returns-clause-inside
returns-clause-inside c = course_inside
