use Rattle.std.proofs.Common.{◌≡◌, ◌≤◌}
use Rattle.std.specs.Prelude.{IfSome}
use Rattle.lsys_reading.specs.Commands.{numbering_of}
use Rattle.lsys_children.proofs.Filling.{IsFilled}
use Rattle.lsys_children.proofs.wanted.Wanted.fill.Given as goal

abbrev pub invariant-loop-symbol : goal.invariant-loop-symbol
invariant-loop-symbol l = record {
  numbering : l.self-inside.numbers.numbering ≡ l.fn.numbering;
  filled : IsFilled (numbering_of l.fn.numbering) l.key l.successor l.symbol-index l.self-inside.numbers l.self-inside.children.items l.cutting;
  depth : IfSome l.cutting (λ n. n ≤ l.symbol-index);
}
