use Rattle.std.proofs.Common.{◌≡◌, ◌++◌, drop, map}
use Rattle.lsys_reading.specs.Patterns.{symbol_read}
use Rattle.lsys_bodies.specs.Views.{pattern_symbol}
use Rattle.lsys_bodies.proofs.patterns.left_context.Given as goal

abbrev pub invariant-loop-symbol : goal.invariant-loop-symbol
invariant-loop-symbol l = map pattern_symbol l.patterns.items ++ map symbol_read (drop l.symbol-index l.symbols) ≡ map symbol_read l.symbols
