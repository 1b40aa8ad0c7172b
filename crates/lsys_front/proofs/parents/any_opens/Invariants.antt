use Rattle.std.proofs.Common.{◌≡◌, ℕ, false, take}
use Rattle.lsys_spec.specs.Rows.{In}
use Rattle.lsys_laws.specs.Children.{is_open}
use Rattle.lsys_forest.specs.Groves.{now_of}
use Rattle.lsys_children.specs.Answers.{kept_successors}
use Rattle.lsys_front.proofs.parents.any_opens.Given as goal

abbrev pub invariant-loop-node : goal.invariant-loop-node
invariant-loop-node g l = (k : ℕ) → In k (take l.node-index l.nodes) → is_open (kept_successors (now_of l.forest) k) ≡ false
