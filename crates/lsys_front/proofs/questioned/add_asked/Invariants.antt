use Rattle.std.proofs.Common.{take}
use Rattle.lsys_forest.specs.Groves.{now_of}
use Rattle.lsys_front.specs.Candidates.{AsksOn}
use Rattle.lsys_front.specs.Questioned.{AddsOf}
use Rattle.lsys_front.proofs.questioned.add_asked.Given as goal

abbrev pub invariant-loop-node : goal.invariant-loop-node
invariant-loop-node g l = record {
  adds : AddsOf (AsksOn l.system l.level (now_of l.forest)) (take l.node-index l.nodes) l.fn.asked.items l.asked.items;
}
