use Rattle.std.proofs.Common.{arith}
use Rattle.std.proofs.lemmas.Grind.{common_steps}
use Rattle.lsys_bodies.proofs.Known.{module-item, not-a-module}
use Rattle.lsys_bodies.proofs.patterns.left_context.Goals as goal

pub unreachable-requires : goal.unreachable-requires
unreachable-requires c =
    not-a-module c.symbol-item.result c.in_default.not-Module (module-item c.args.symbols.now c.loop-symbol.symbol-index c.symbol-item.result c.requires c.loop-symbol-test.true c.symbol-item.is)

pub loop-symbol-preserved : goal.loop-symbol-preserved
loop-symbol-preserved c = grind (arith, common_steps)
