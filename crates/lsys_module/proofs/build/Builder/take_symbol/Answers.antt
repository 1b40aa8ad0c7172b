use Rattle.std.proofs.Common.{arith}
use Rattle.std.proofs.lemmas.Grind.{common_steps}
use Rattle.lsys_module.proofs.build.Builder.take_symbol.Goals as goal

pub returns-then-len-ge-MOST_SYMBOLS : goal.returns-then-len-ge-MOST_SYMBOLS
returns-then-len-ge-MOST_SYMBOLS c = grind (arith, common_steps)

pub returns-in-Name : goal.returns-in-Name
returns-in-Name c = grind (arith, common_steps)

pub unreachable-requires : goal.unreachable-requires
unreachable-requires c = grind (arith, common_steps)

pub returns : goal.returns
returns c = grind (arith, common_steps)
