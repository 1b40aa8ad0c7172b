use Rattle.std.proofs.Common.{refl}
use Rattle.lsys_pass.proofs.pass.Pass.come_to_rest.Goals as goal

pub returns-clause-rest : goal.returns-clause-rest
returns-clause-rest g c = refl
