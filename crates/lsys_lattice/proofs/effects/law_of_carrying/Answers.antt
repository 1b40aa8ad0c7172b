use Rattle.lsys_lattice.proofs.Carrying.{carried-heading, carried-start, carried-plus, carried-scaled}
use Rattle.lsys_lattice.proofs.effects.law_of_carrying.Goals as goal

pub returns-clause-heading : goal.returns-clause-heading
returns-clause-heading c = carried-heading

pub returns-clause-start : goal.returns-clause-start
returns-clause-start c = carried-start

pub returns-clause-sum : goal.returns-clause-sum
returns-clause-sum c = carried-plus

pub returns-clause-multiple : goal.returns-clause-multiple
returns-clause-multiple c = carried-scaled
