use Rattle.std.proofs.Common.{◌≡◌, drop}
use Rattle.lsys_module.specs.Views.{string_of}
use Rattle.lsys_growth.specs.Growth.{is_bare}
use Rattle.lsys_growth.proofs.class.is_bare_axiom.Given as goal

abbrev pub invariant-loop-symbol : goal.invariant-loop-symbol
invariant-loop-symbol l = is_bare (string_of (drop l.symbol-index l.symbols)) ≡ is_bare (string_of l.symbols)
