use Rattle.std.proofs.Common.{◌≡◌, ◌+◌, ◌≤◌, drop}
use Rattle.std.specs.Option.{option_map}
use Rattle.lsys_module.specs.Views.{module_name, string_of}
use Rattle.lsys_growth.specs.Counting.{count_of_what}
use Rattle.lsys_growth.proofs.counting.times_in_axiom.Given as goal

abbrev pub invariant-loop-symbol : goal.invariant-loop-symbol
invariant-loop-symbol l = record {
  told : l.times + count_of_what (option_map module_name l.letter) (string_of (drop l.symbol-index l.symbols)) ≡ count_of_what (option_map module_name l.letter) (string_of l.symbols);
  few : l.times ≤ l.symbol-index;
}
