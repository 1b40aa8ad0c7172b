use Rattle.std.proofs.Common.{◌≡◌, ◌+◌, ◌≤◌, ◌∙◌, ap, sym, subst, None, Some, arith}
use Rattle.std.specs.Prelude.{IfErr}
use Rattle.lsys_syntax.specs.Limits.{most_rule_tokens}
use Rattle.lsys_syntax.specs.Rules.{rule_pieces}
use Rattle.lsys_reading.specs.RuleLines.{rule_at}
use Rattle.lsys_bodies.specs.Counting.{passed_or}
use Rattle.lsys_bodies.proofs.WholeCount.{first-many}
use Rattle.lsys_bodies.proofs.many.first_many.Goals as goal

pub returns-in-Ok : goal.returns-in-Ok
returns-in-Ok c ks h =
    ap (λ r. passed_or c.args.from r (λ d. None)) (sym c.in-Ok.is)
    ∙ first-many c.args.from (rule_pieces (rule_at ks c.args.rule.now)) c.count_rule.result (c.count_rule.ensures ks h)

pub returns-in-Err : goal.returns-in-Err
returns-in-Err c ks h =
    let few : c.in-Err.tokens ≤ most_rule_tokens = subst (λ r. IfErr r (λ t. t ≤ most_rule_tokens)) c.in-Err.is (c.count_rule.ensures ks h).few in
    let sum : c.saturating_add.result ≡ c.args.from + c.in-Err.tokens = omega (arith, few, c.requires, c.saturating_add.ensures) in
    ap (λ n. Some n) sum
    ∙ ap (λ r. passed_or c.args.from r (λ d. None)) (sym c.in-Err.is)
    ∙ first-many c.args.from (rule_pieces (rule_at ks c.args.rule.now)) c.count_rule.result (c.count_rule.ensures ks h)
