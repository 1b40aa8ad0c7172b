use Rattle.std.proofs.Common.{◌≡◌, ◌+◌, ◌≤◌, drop, map}
use Rattle.std.specs.Option.{option_map}
use Rattle.lsys_module.specs.Views.{module_name}
use Rattle.lsys_bodies.specs.Views.{template_symbol}
use Rattle.lsys_growth.specs.Counting.{count_of_what}
use Rattle.lsys_growth.proofs.counting.times_in_successor.Given as goal

abbrev pub invariant-loop-template : goal.invariant-loop-template
invariant-loop-template l = record {
  told : l.times + count_of_what (option_map module_name l.letter) (map template_symbol (drop l.template-index l.templates)) ≡ count_of_what (option_map module_name l.letter) (map template_symbol l.templates);
  few : l.times ≤ l.template-index;
}
