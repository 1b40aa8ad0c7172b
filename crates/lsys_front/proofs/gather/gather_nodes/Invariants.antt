use Rattle.std.proofs.Common.{take}
use Rattle.lsys_spec.specs.Rows.{In}
use Rattle.lsys_front.specs.Finds.{Gathers, AllMarked}
use Rattle.lsys_front.proofs.gather.gather_nodes.Given as goal

abbrev pub invariant-loop-node : goal.invariant-loop-node
invariant-loop-node l = record {
  gathers : Gathers (λ k. In k l.these) l.fn.seats l.seats l.fn.nodes.items l.nodes.items;
  all : AllMarked (λ k. In k (take l.node-index l.these)) l.seats;
}
