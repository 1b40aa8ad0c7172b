use Rattle.std.proofs.Common.{arith}
use Rattle.std.proofs.lemmas.Grind.{common_steps}
use Rattle.lsys_level.proofs.flat.FlatLevelsLevelView.key.Goals as goal

pub key-requires : goal.key-requires
key-requires c = grind (arith, common_steps)
