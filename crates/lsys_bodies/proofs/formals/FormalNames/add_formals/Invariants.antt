use Rattle.std.proofs.Common.{drop, map}
use Rattle.lsys_syntax.specs.Strings.{more_pieces}
use Rattle.lsys_syntax.specs.Rules.{formal_pieces}
use Rattle.lsys_text.specs.Tokens.{name_of}
use Rattle.lsys_bodies.proofs.Adding.{Goes}
use Rattle.lsys_bodies.proofs.formals.FormalNames.add_formals.Given as goal

abbrev pub invariant-loop-formal : goal.invariant-loop-formal
invariant-loop-formal l = Goes l.initial.self l.formals (more_pieces formal_pieces (map name_of l.formals)) l.self (drop l.formal-index l.formals) (more_pieces formal_pieces (map name_of (drop l.formal-index l.formals)))
