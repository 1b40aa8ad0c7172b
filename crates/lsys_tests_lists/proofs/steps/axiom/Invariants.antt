use Rattle.std.proofs.Common.{◌≡◌, ◌<◌, length}
use Rattle.std.specs.List.{All}
use Rattle.lsys_tests_lists.proofs.steps.axiom.Given as goal

abbrev pub invariant-loop-place : goal.invariant-loop-place
invariant-loop-place g l = record {
  few : length l.row.items ≡ l.place;
  parents : All (λ o. o.parent < 1) l.row.items;
}
