use Rattle.std.proofs.Common.{arith}
use Rattle.std.proofs.lemmas.Grind.{common_steps}
use Rattle.lsys_text.proofs.scan.token_at.Goals as goal

pub returns-after-mode-clause-token : goal.returns-after-mode-clause-token
returns-after-mode-clause-token c = grind (arith, common_steps)
