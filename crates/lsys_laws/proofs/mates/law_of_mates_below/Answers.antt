use Rattle.lsys_laws.proofs.Closers.{there, inside, ends_below}
use Rattle.lsys_laws.proofs.mates.law_of_mates_below.Goals as goal

pub returns : goal.returns
returns c = record { levels = there; modules = inside; brackets = ends_below }
