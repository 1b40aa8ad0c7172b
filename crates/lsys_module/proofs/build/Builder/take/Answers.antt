use Rattle.std.proofs.Common.{arith}
use Rattle.std.proofs.lemmas.Grind.{common_steps}
use Rattle.lsys_module.proofs.build.Builder.take.Goals as goal

pub after_due-self-requires-clause-goes_on : goal.after_due-self-requires-clause-goes_on
after_due-self-requires-clause-goes_on c = grind (arith, common_steps)
