use Rattle.std.proofs.Common.{◌≡◌, ◌≤◌, ◌+◌, ◌*◌, ◌^◌}
use Rattle.std.specs.Prelude.{IfSome}
use Rattle.lsys_reading.specs.Commands.{numbering_of}
use Rattle.lsys_flat.proofs.Extending.{AreAdded}
use Rattle.lsys_flat.proofs.made.Made.add_children.Given as goal

abbrev pub invariant-loop-symbol : goal.invariant-loop-symbol
invariant-loop-symbol l = record {
  numbering : l.numbers.numbering ≡ l.fn.numbers.numbering;
  added : AreAdded (numbering_of l.fn.numbers.numbering) l.parent l.key l.successor (record l.fn.self { parents = l.parent + 1 }) l.symbol-index l.numbers l.self;
  depth : IfSome l.self.cutting (λ n. n ≤ l.parent * 2 ^ 32 + l.symbol-index);
  parents : l.self.parents ≡ l.parent + 1;
  room : l.self.room ≡ l.fn.self.room;
}
