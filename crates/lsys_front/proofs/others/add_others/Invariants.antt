use Rattle.std.proofs.Common.{◌≡◌, take}
use Rattle.lsys_forest.specs.Groves.{now_of}
use Rattle.lsys_front.specs.Others.{IsOtherwise}
use Rattle.lsys_front.specs.Questioned.{AddsOf}
use Rattle.lsys_front.proofs.others.add_others.Given as goal

abbrev pub invariant-loop-node : goal.invariant-loop-node
invariant-loop-node g l = record {
  rules : l.rules ≡ l.fn.rules;
  adds : AddsOf (IsOtherwise l.fn.rules (now_of l.forest)) (take l.node-index l.nodes) l.fn.others.items l.others.items;
}
