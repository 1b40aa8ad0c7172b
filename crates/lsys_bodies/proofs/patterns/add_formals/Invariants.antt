use Rattle.std.proofs.Common.{◌≡◌, ◌++◌, drop, map}
use Rattle.lsys_syntax.specs.Checks.{all_formals}
use Rattle.lsys_text.specs.Tokens.{name_of}
use Rattle.lsys_reading.specs.Heads.{patterns_of}
use Rattle.lsys_bodies.proofs.patterns.add_formals.Given as goal

abbrev pub invariant-loop-symbol : goal.invariant-loop-symbol
invariant-loop-symbol l =
    map name_of l.formals.items ++ all_formals (patterns_of (drop l.symbol-index l.symbols))
    ≡ map name_of l.initial.formals.items ++ all_formals (patterns_of l.symbols)
