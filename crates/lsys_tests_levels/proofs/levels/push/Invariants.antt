use Rattle.std.proofs.Common.{◌≡◌, ℕ, ◌+◌, length, Some}
use Rattle.std.specs.Prelude.{slice_get}
use Rattle.lsys_tests_levels.proofs.levels.push.Given as goal

abbrev pub invariant-loop-at : goal.invariant-loop-at
invariant-loop-at g l = record {
  tags : length l.tags.items ≡ l.at;
  keys : length l.keys.items ≡ l.at;
  run : (p t : ℕ) → slice_get l.tags.items p ≡ Some t → t ≡ l.first + p;
}
