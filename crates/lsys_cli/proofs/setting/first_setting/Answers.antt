use Rattle.std.proofs.Common.{arith}
use Rattle.std.proofs.lemmas.Grind.{common_steps}
use Rattle.lsys_cli.proofs.setting.first_setting.Goals as goal

pub returns-in_err-word : goal.returns-in_err-word
returns-in_err-word c = grind (arith, common_steps)

pub returns-in_err-word-2 : goal.returns-in_err-word-2
returns-in_err-word-2 c = grind (arith, common_steps)
