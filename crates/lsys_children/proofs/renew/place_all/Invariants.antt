use Rattle.std.proofs.Common.{◌≡◌, ◌≤◌, length, take, vec_capacity}
use Rattle.lsys_forest.specs.Groves.{kept_in}
use Rattle.lsys_children.proofs.Placing.{ArePlaced}
use Rattle.lsys_children.proofs.renew.place_all.Given as goal

abbrev pub invariant-loop-at : goal.invariant-loop-at
invariant-loop-at g l = record {
  placed : ArePlaced l.fn.forest l.forest l.parent (take l.at l.wanted) (take l.at l.found) l.nodes.items l.fn.changes l.changes l.keep_kinds;
  places : length l.wanted ≤ vec_capacity l.nodes;
  kept : kept_in l.forest ≡ kept_in l.fn.forest;
}
