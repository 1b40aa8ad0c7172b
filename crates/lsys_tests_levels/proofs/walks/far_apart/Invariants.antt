use Rattle.std.proofs.Common.{◌≡◌, ◌+◌, true, false, length}
use Rattle.lsys_syntax.specs.Strings.{balanced}
use Rattle.lsys_module.specs.Views.{string_of}
use Rattle.lsys_level.specs.Places.{has_cut}
use Rattle.lsys_tests_levels.proofs.walks.far_apart.Given as goal

abbrev pub invariant-loop-letter : goal.invariant-loop-letter
invariant-loop-letter g l = record {
  balance : balanced 0 (string_of l.symbols.items) ≡ true;
  whole : has_cut l.symbols.items ≡ false;
  few : length l.symbols.items ≡ l._letter + 1;
}
