use Rattle.std.proofs.Common.{◌≡◌, ◌≤◌, None, drop}
use Rattle.std.specs.Prelude.{IfSome}
use Rattle.lsys_children.proofs.Wishing.{cutting_past}
use Rattle.lsys_children.proofs.opens.reaches_end.Given as goal

abbrev pub invariant-loop-symbol : goal.invariant-loop-symbol
invariant-loop-symbol l = record {
  past : cutting_past l.cutting (drop l.symbol-index l.symbols) ≡ cutting_past None l.symbols;
  depth : IfSome l.cutting (λ n. n ≤ l.symbol-index);
}
