use Rattle.std.proofs.Common.{◌≡◌, ◌≤◌, drop, length, map}
use Rattle.lsys_bodies.specs.Views.{as_production}
use Rattle.lsys_growth.specs.Growth.{most_letters, all_rule_names, put_letters}
use Rattle.lsys_growth.specs.Letters.{letters_in}
use Rattle.lsys_growth.proofs.letters.put_rules.Given as goal

abbrev pub invariant-loop-rule : goal.invariant-loop-rule
invariant-loop-rule l = record {
  rest : put_letters (letters_in l.letters) (all_rule_names (map as_production (drop l.rule-index l.rules))) ≡ put_letters (letters_in l.initial.letters) (all_rule_names (map as_production l.rules));
  few : length l.letters.items ≤ most_letters;
}
