use Rattle.std.proofs.Common.{◌≡◌, take}
use Rattle.lsys_forest.specs.Groves.{kept_in}
use Rattle.lsys_children.specs.Steps.{AreBorn}
use Rattle.lsys_children.proofs.renew.bear_each.Given as goal

abbrev pub invariant-loop-child : goal.invariant-loop-child
invariant-loop-child g l = record {
  born : AreBorn l.fn.forest l.forest l.parent (take l.child-index l.wanted) l.fn.changes l.changes;
  kept : kept_in l.forest ≡ kept_in l.fn.forest;
}
