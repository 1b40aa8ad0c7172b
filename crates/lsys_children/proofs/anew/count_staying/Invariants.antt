use Rattle.std.proofs.Common.{◌≡◌, ◌+◌, ◌*◌, ◌≤◌, None, drop}
use Rattle.std.specs.Prelude.{IfSome}
use Rattle.lsys_module.specs.Views.{string_of}
use Rattle.lsys_children.specs.Needs.{staying_count, staying_room}
use Rattle.lsys_children.proofs.anew.count_staying.Given as goal

abbrev pub invariant-loop-symbol : goal.invariant-loop-symbol
invariant-loop-symbol l = record {
  nodes : l.nodes + staying_count l.cutting (string_of (drop l.symbol-index l.symbols)) ≡ staying_count None (string_of l.symbols);
  params : l.params + staying_room l.cutting (string_of (drop l.symbol-index l.symbols)) ≡ staying_room None (string_of l.symbols);
  few : l.nodes ≤ l.symbol-index;
  small : l.params ≤ 16 * l.symbol-index;
  depth : IfSome l.cutting (λ n. n ≤ l.symbol-index);
}
