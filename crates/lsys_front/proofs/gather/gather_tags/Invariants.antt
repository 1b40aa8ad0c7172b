use Rattle.std.proofs.Common.{take}
use Rattle.lsys_spec.specs.Rows.{In}
use Rattle.lsys_front.specs.Finds.{Gathers, AllMarked}
use Rattle.lsys_front.proofs.gather.gather_tags.Given as goal

abbrev pub invariant-loop-tag : goal.invariant-loop-tag
invariant-loop-tag l = record {
  gathers : Gathers (λ k. In k l.tags) l.fn.seats l.seats l.fn.nodes.items l.nodes.items;
  all : AllMarked (λ k. In k (take l.tag-index l.tags)) l.seats;
}
