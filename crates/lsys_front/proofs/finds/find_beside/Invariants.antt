use Rattle.std.proofs.Common.{ℕ, take}
use Rattle.lsys_spec.specs.Rows.{In}
use Rattle.lsys_front.specs.Finds.{Gathers, AllMarked, IsAtOrBeside, IsBeside}
use Rattle.lsys_front.proofs.finds.find_beside.Given as goal

abbrev pub invariant-loop-node : goal.invariant-loop-node
invariant-loop-node g l = record {
  gathers : Gathers (IsBeside l.forest l.changed) l.fn.seats l.seats l.fn.beside.items l.beside.items;
  all : (q : ℕ) → In q (take l.node-index l.changed) → AllMarked (IsAtOrBeside l.forest q) l.seats;
}
