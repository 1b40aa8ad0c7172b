use Rattle.std.proofs.Common.{drop}
use Rattle.lsys_syntax.specs.Rules.{formal_pieces}
use Rattle.lsys_reading.specs.Patterns.{symbol_read}
use Rattle.lsys_bodies.specs.Counting.{counts_of}
use Rattle.lsys_bodies.proofs.CountLoops.{CountGoes, symbols}
use Rattle.lsys_bodies.proofs.many.count_patterns.Given as goal

abbrev pub invariant-loop-symbol : goal.invariant-loop-symbol
invariant-loop-symbol l = CountGoes (counts_of l.fn.counter) (symbols formal_pieces symbol_read l.symbols) l.counted (symbols formal_pieces symbol_read (drop l.symbol-index l.symbols))
