use Rattle.std.proofs.Common.{drop}
use Rattle.lsys_syntax.specs.Strings.{string_pieces}
use Rattle.lsys_syntax.specs.Rules.{formal_pieces}
use Rattle.lsys_reading.specs.Heads.{patterns_of}
use Rattle.lsys_bodies.specs.Formals.{formals_in}
use Rattle.lsys_bodies.proofs.Adding.{Goes}
use Rattle.lsys_bodies.proofs.formals.FormalNames.add_patterns.Given as goal

abbrev pub invariant-loop-symbol : goal.invariant-loop-symbol
invariant-loop-symbol l = Goes l.initial.self (formals_in l.symbols) (string_pieces formal_pieces (patterns_of l.symbols)) l.self (formals_in (drop l.symbol-index l.symbols)) (string_pieces formal_pieces (patterns_of (drop l.symbol-index l.symbols)))
