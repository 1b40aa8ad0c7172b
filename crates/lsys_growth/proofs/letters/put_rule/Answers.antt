use Rattle.std.proofs.Common.{map}
use Rattle.lsys_bodies.specs.Views.{rule_of, template_symbol}
use Rattle.lsys_growth.specs.Growth.{module_names, rule_names}
use Rattle.lsys_growth.specs.Letters.{letters_in, HasPut}
use Rattle.lsys_growth.proofs.LettersPut.{first_full_of, rule_put}
use Rattle.lsys_growth.proofs.Results.{if_ok}
use Rattle.lsys_growth.proofs.letters.put_rule.Goals as goal

pub returns-then-not-branch : goal.returns-then-not-branch
returns-then-not-branch c =
    first_full_of (letters_in c.args.letters.now) _ c.args.rule.now c.get-body.result.now c.in_ok-put_name.field-0 c.get-body.ensures.body c.if-not-branch.true c.in_ok-put_name.ensures

pub returns : goal.returns
returns c =
    let old = letters_in c.args.letters.now in
    let mid = letters_in c.put_name.new.letters in
    let new = letters_in c.put_successor.new.letters in
    let ts = c.deref.result.now in
    if_ok (HasPut mid (module_names (map template_symbol ts)) new) (HasPut old (rule_names (rule_of c.args.rule.now)) new) c.put_successor.result
    (λ b p. rule_put old mid new c.args.rule.now c.get-body.result.now ts c.in_ok-put_name.field-0 b c.get-body.ensures.body c.deref.ensures.value c.if-not-branch.false c.in_ok-put_name.ensures p)
    c.put_successor.ensures
