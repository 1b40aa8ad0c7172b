use Rattle.std.proofs.Common.{arith}
use Rattle.std.proofs.lemmas.Grind.{common_steps}
use Rattle.lsys_flat.proofs.tags.free_from.Goals as goal

pub overflow_add-tag : goal.overflow_add-tag
overflow_add-tag c = grind (arith, common_steps)

pub loop-tag-preserved : goal.loop-tag-preserved
loop-tag-preserved c = grind (arith, common_steps)
