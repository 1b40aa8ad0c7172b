use Rattle.std.proofs.Common.{rules}
use Rattle.lsys_front.proofs.front.Front.first.Goals as goal

pub returns-clause-looked : goal.returns-clause-looked
returns-clause-looked g c = search rules
