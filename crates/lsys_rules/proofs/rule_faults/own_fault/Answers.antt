use Rattle.std.proofs.Common.{◌≡◌, ◌∙◌, None, Some, sym, refl}
use Rattle.lsys_syntax.specs.Checks.{rule_repeated, rule_unknown}
use Rattle.lsys_text.specs.Tokens.{kind_row}
use Rattle.lsys_reading.specs.RuleLines.{rule_at}
use Rattle.lsys_rules.proofs.rule_faults.own_fault.Goals as goal

pub returns-in-Some : goal.returns-in-Some
returns-in-Some c = λ from names.
    let unknown : rule_unknown from (rule_at (kind_row c.args.tokens.now) c.args.rule.now) ≡ Some c.in-Some.place = sym (c.unknown_name.ensures from names) ∙ c.in-Some.is in
    rw unknown refl

pub returns-in_err-place : goal.returns-in_err-place
returns-in_err-place c = λ from names.
    let ks = kind_row c.args.tokens.now in
    let unknown : rule_unknown from (rule_at ks c.args.rule.now) ≡ None = sym (c.unknown_name.ensures from names) ∙ c.in_default.is in
    let repeated : rule_repeated from (rule_at ks c.args.rule.now) ≡ None = sym (c.repeated.ensures from c.args.rule.now ks names) ∙ c.in_err-place.was in
    rw (c.from_residual.ensures, unknown, repeated) refl

pub returns : goal.returns
returns c = λ from names.
    let ks = kind_row c.args.tokens.now in
    let unknown : rule_unknown from (rule_at ks c.args.rule.now) ≡ None = sym (c.unknown_name.ensures from names) ∙ c.in_default.is in
    let repeated : rule_repeated from (rule_at ks c.args.rule.now) ≡ Some c.in_ok-place.place = sym (c.repeated.ensures from c.args.rule.now ks names) ∙ c.in_ok-place.was in
    rw (unknown, repeated) refl
