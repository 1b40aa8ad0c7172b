use Rattle.lsys_lattice.proofs.Carrying.{carried-followed, followed-followed, followed-start}
use Rattle.lsys_lattice.proofs.Turning.{turned-followed, followed-known}
use Rattle.lsys_lattice.proofs.effects.law_of_following.Goals as goal

pub returns-clause-carries : goal.returns-clause-carries
returns-clause-carries c = carried-followed

pub returns-clause-associative : goal.returns-clause-associative
returns-clause-associative c = followed-followed

pub returns-clause-start : goal.returns-clause-start
returns-clause-start c = followed-start

pub returns-clause-turns : goal.returns-clause-turns
returns-clause-turns c = turned-followed

pub returns-clause-known : goal.returns-clause-known
returns-clause-known c = followed-known
