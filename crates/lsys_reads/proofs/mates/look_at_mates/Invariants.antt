use Rattle.std.proofs.Common.{ℕ, take}
use Rattle.lsys_spec.specs.Rows.{In}
use Rattle.lsys_reads.specs.Looks.{LooksAtMate, IsOnLevelOf, AddsBelow}
use Rattle.lsys_reads.proofs.mates.look_at_mates.Given as goal

abbrev pub invariant-loop-node : goal.invariant-loop-node
invariant-loop-node g l = record {
  looks : (q : ℕ) → In q (take l.node-index l.touched) → LooksAtMate l.forest q l.looked.items;
  keeps : (k : ℕ) → In k l.fn.looked.items → In k l.looked.items;
  below : (t : ℕ) → ((q : ℕ) → In q l.touched → IsOnLevelOf l.forest t q) → AddsBelow l.forest t l.fn.looked.items l.looked.items;
}
