use Rattle.std.proofs.Common.{◌≡◌, ◌+◌, ◌<◌, ◌≤◌, Some, length, take}
use Rattle.lsys_spec.specs.Rows.{AreApart}
use Rattle.lsys_forest.specs.Nodes.{root_node}
use Rattle.lsys_forest.specs.Groves.{now_of, live_nodes}
use Rattle.lsys_tests_forests.proofs.Grown.{AreGrown, IsHalf}
use Rattle.lsys_tests_forests.proofs.forests.two_levels.Given as goal

abbrev pub invariant-loop-place : goal.invariant-loop-place
invariant-loop-place g l = record {
  root_is : l.forest.root ≡ l.root;
  alone : now_of l.forest l.root ≡ Some (root_node l.root);
  grown : AreGrown (now_of l.forest) l.root l.parents.items (take l.place l.symbols);
  apart : AreApart l.parents.items;
  few : live_nodes l.forest ≤ l.place + 1;
}

abbrev pub invariant-loop-at : goal.invariant-loop-at
invariant-loop-at g l = record {
  half : IsHalf (now_of l.forest) l.forest.root l.parents.items l.symbols l.at;
  long : length l.parents.items ≡ length l.symbols;
  some : 0 < l.at;
  few : live_nodes l.forest ≤ l.at + length l.symbols;
}
