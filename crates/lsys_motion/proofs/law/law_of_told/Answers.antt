use Rattle.lsys_motion.proofs.Lasts.{told_bounds, told_turtles, told_refused}
use Rattle.lsys_motion.proofs.law.law_of_told.Goals as goal

pub returns-clause-bounds : goal.returns-clause-bounds
returns-clause-bounds c = told_bounds

pub returns-clause-turtles : goal.returns-clause-turtles
returns-clause-turtles c = told_turtles

pub returns-clause-refused : goal.returns-clause-refused
returns-clause-refused c = told_refused
