use Rattle.lsys_lattice.proofs.Fronts.{course_anywhere, course_first, course_second, course_branch, course_after}
use Rattle.lsys_lattice.proofs.motions.law_of_courses.Goals as goal

pub returns-clause-anywhere : goal.returns-clause-anywhere
returns-clause-anywhere c = course_anywhere

pub returns-clause-first : goal.returns-clause-first
returns-clause-first c = course_first

pub returns-clause-second : goal.returns-clause-second
returns-clause-second c = course_second

pub returns-clause-branch : goal.returns-clause-branch
returns-clause-branch c = course_branch

pub returns-clause-after : goal.returns-clause-after
returns-clause-after c = course_after
