use Rattle.std.proofs.Common.{◌≡◌, ◌≤◌}
use Rattle.std.specs.Prelude.{IfSome}
use Rattle.lsys_forest.specs.Groves.{kept_in}
use Rattle.lsys_children.proofs.BearingByPlace.{IsBearing}
use Rattle.lsys_children.proofs.births.bear_staying.Given as goal

abbrev pub invariant-loop-symbol : goal.invariant-loop-symbol
invariant-loop-symbol g l = record {
  bearing : IsBearing l.fn.forest l.forest l.parent l.key l.successor l.symbol-index l.cutting l.fn.told l.told;
  place : l.count ≡ l.symbol-index;
  depth : IfSome l.cutting (λ n. n ≤ l.symbol-index);
  kept : kept_in l.forest ≡ kept_in l.fn.forest;
}
