use Rattle.std.proofs.Common.{rules}
use Rattle.lsys_flat.proofs.beside.Beside.old.Goals as goal

pub returns-in-Some-get : goal.returns-in-Some-get
returns-in-Some-get g c = search rules
