use Rattle.std.proofs.Common.{◌≡◌, ℕ, true, take}
use Rattle.lsys_spec.specs.Rows.{In}
use Rattle.lsys_reads.specs.Relations.{is_settled}
use Rattle.lsys_front.specs.Finds.{Gathers, AllMarked, IsReader}
use Rattle.lsys_front.proofs.finds.find_readers.Given as goal

abbrev pub invariant-loop-node : goal.invariant-loop-node
invariant-loop-node l = record {
  gathers : Gathers (IsReader l.reads l.seen) l.fn.seats l.seats l.fn.readers.items l.readers.items;
  all : (q : ℕ) → In q (take l.node-index l.seen) → AllMarked (λ k. is_settled l.reads k q ≡ true) l.seats;
}
