use Rattle.std.proofs.Common.{◌≡◌, ◌++◌, drop, map}
use Rattle.lsys_reading.specs.Patterns.{symbol_read}
use Rattle.lsys_bodies.specs.Views.{item_symbol}
use Rattle.lsys_bodies.proofs.patterns.right_context.Given as goal

abbrev pub invariant-loop-symbol : goal.invariant-loop-symbol
invariant-loop-symbol l = map item_symbol l.items.items ++ map symbol_read (drop l.symbol-index l.symbols) ≡ map symbol_read l.symbols
