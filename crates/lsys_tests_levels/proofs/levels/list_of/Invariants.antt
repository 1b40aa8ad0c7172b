use Rattle.std.proofs.Common.{◌≡◌, take}
use Rattle.lsys_tests_levels.proofs.levels.list_of.Given as goal

abbrev pub invariant-loop-symbol : goal.invariant-loop-symbol
invariant-loop-symbol g l = l.list ≡ take l.symbol-index l.symbols
