use Rattle.std.proofs.Common.{◌≡◌, ◌++◌, ℕ, take}
use Rattle.lsys_spec.specs.Rows.{In}
use Rattle.lsys_forest.specs.Groves.{now_of, IsLive}
use Rattle.lsys_forest.specs.Rows.{kids_below}
use Rattle.lsys_front.proofs.ends.add_children.Given as goal

abbrev pub invariant-loop-node : goal.invariant-loop-node
invariant-loop-node g l = record {
  below : l.below.items ≡ l.fn.below.items ++ kids_below (now_of l.forest) (take l.node-index l.nodes);
  lives : (k : ℕ) → In k (kids_below (now_of l.forest) (take l.node-index l.nodes)) → IsLive l.forest k;
}
