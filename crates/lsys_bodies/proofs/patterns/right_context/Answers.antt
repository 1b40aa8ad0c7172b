use Rattle.std.proofs.Common.{◌≡◌, ◌++◌, ◌∷◌, [], rules}
use Rattle.lsys_reading.specs.Patterns.{symbol_read}
use Rattle.lsys_bodies.specs.Views.{item_symbol}
use Rattle.lsys_bodies.proofs.Loops.{built-more}
use Rattle.lsys_bodies.proofs.patterns.right_context.Goals as goal

pub loop-symbol-preserved : goal.loop-symbol-preserved
loop-symbol-preserved c =
    let made = c.loop-symbol.items.items in
    let pushed : c.push.new.self.items ≡ made ++ c.in_ok-item.field-0 ∷ [] = search rules in
    rw pushed (built-more item_symbol symbol_read made c.in_ok-item.field-0 c.args.symbols.now c.loop-symbol.symbol-index c.symbol-item.result c.loop-symbol-test.true c.symbol-item.is c.in_ok-item.ensures c.loop-symbol.invariant)
