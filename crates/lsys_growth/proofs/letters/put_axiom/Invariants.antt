use Rattle.std.proofs.Common.{◌≡◌, ◌≤◌, drop, length}
use Rattle.lsys_module.specs.Views.{string_of}
use Rattle.lsys_growth.specs.Growth.{most_letters, module_names, put_letters}
use Rattle.lsys_growth.specs.Letters.{letters_in}
use Rattle.lsys_growth.proofs.letters.put_axiom.Given as goal

abbrev pub invariant-loop-symbol : goal.invariant-loop-symbol
invariant-loop-symbol l = record {
  rest : put_letters (letters_in l.letters) (module_names (string_of (drop l.symbol-index l.symbols))) ≡ put_letters (letters_in l.initial.letters) (module_names (string_of l.symbols));
  few : length l.letters.items ≤ most_letters;
}
