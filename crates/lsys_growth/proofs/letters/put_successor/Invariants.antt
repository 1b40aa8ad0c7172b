use Rattle.std.proofs.Common.{◌≡◌, ◌≤◌, drop, length, map}
use Rattle.lsys_bodies.specs.Views.{template_symbol}
use Rattle.lsys_growth.specs.Growth.{most_letters, module_names, put_letters}
use Rattle.lsys_growth.specs.Letters.{letters_in}
use Rattle.lsys_growth.proofs.letters.put_successor.Given as goal

abbrev pub invariant-loop-template : goal.invariant-loop-template
invariant-loop-template l = record {
  rest : put_letters (letters_in l.letters) (module_names (map template_symbol (drop l.template-index l.templates))) ≡ put_letters (letters_in l.initial.letters) (module_names (map template_symbol l.templates));
  few : length l.letters.items ≤ most_letters;
}
