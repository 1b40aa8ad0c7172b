use Rattle.std.proofs.Common.{arith, true}
use Rattle.std.proofs.lemmas.Grind.{common_steps}
use Rattle.lsys_bodies.specs.Views.{rule_of}
use Rattle.lsys_growth.specs.Growth.{rule_names}
use Rattle.lsys_growth.specs.Letters.{letters_in, HasPut}
use Rattle.lsys_growth.proofs.LettersPut.{rules_full, rules_on, kept, few}
use Rattle.lsys_growth.proofs.letters.put_rules.Goals as goal

pub returns-then-not-branch : goal.returns-then-not-branch
returns-then-not-branch c =
    rules_full (letters_in c.args.letters.now) (letters_in c.loop-rule.letters) _ c.args.rules.now c.loop-rule.rule-index c.rule-item.result
    c.in_ok-put_rule.field-0 c.loop-rule-test.true c.rule-item.is c.loop-rule.invariant.rest c.if-not-branch.true c.in_ok-put_rule.ensures

pub loop-rule-preserved : goal.loop-rule-preserved
loop-rule-preserved c =
    let put : HasPut (letters_in c.loop-rule.letters) (rule_names (rule_of c.rule-item.result)) (letters_in c.put_rule.new.letters) true =
    kept (letters_in c.loop-rule.letters) (rule_names (rule_of c.rule-item.result)) (letters_in c.put_rule.new.letters) c.in_ok-put_rule.field-0 c.if-not-branch.false c.in_ok-put_rule.ensures in
    record {
      rest = rules_on (letters_in c.args.letters.now) (letters_in c.loop-rule.letters) (letters_in c.put_rule.new.letters) c.args.rules.now c.loop-rule.rule-index c.rule-item.result c.loop-rule-test.true c.rule-item.is c.loop-rule.invariant.rest put.0;
      few = few c.put_rule.new.letters.items put.1;
    }

pub returns : goal.returns
returns c = grind (arith, common_steps)
