use Rattle.std.proofs.Common.{◌≡◌, length, sum_by, take}
use Rattle.lsys_forest.specs.Groves.{now_of}
use Rattle.lsys_forest.specs.Rows.{kids_in}
use Rattle.lsys_front.proofs.parents.count_kids.Given as goal

abbrev pub invariant-loop-node : goal.invariant-loop-node
invariant-loop-node g l = l.count ≡ sum_by (λ k. length (kids_in (now_of l.forest k))) (take l.node-index l.nodes)
