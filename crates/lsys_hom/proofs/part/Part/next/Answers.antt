use Rattle.std.proofs.Common.{arith}
use Rattle.std.proofs.lemmas.Grind.{common_steps}
use Rattle.lsys_hom.proofs.part.Part.next.Goals as goal

pub returns-in_err-first-in-Successor-clause-taken : goal.returns-in_err-first-in-Successor-clause-taken
returns-in_err-first-in-Successor-clause-taken c = grind (arith, common_steps)
