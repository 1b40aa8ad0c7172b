use Rattle.std.proofs.Common.{arith}
use Rattle.std.proofs.lemmas.Grind.{common_steps, elements}
use Rattle.lsys_cli.proofs.picture_reply.print_place.Goals as goal

pub returns-then-place-from : goal.returns-then-place-from
returns-then-place-from g c = grind (arith, elements)

pub returns : goal.returns
returns g c = grind (arith, common_steps)
