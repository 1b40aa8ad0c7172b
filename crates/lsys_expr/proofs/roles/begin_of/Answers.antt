use Rattle.std.proofs.Common.{◌≡◌, ◌^◌, ap, true, nat_lt, lt-ltb, if◌then◌else◌, ◌∙◌}
use Rattle.lsys_syntax.specs.Tokens.{Number, BigNumber}
use Rattle.lsys_syntax.specs.Expressions.{number, name}
use Rattle.lsys_syntax.specs.ExpressionMachine.{due_step}
use Rattle.lsys_syntax.specs.RuleMachine.{small}
use Rattle.lsys_text.specs.Tokens.{kind_of, name_of}
use Rattle.lsys_expr.proofs.roles.begin_of.Goals as goal

pub returns-in-Name : goal.returns-in-Name
returns-in-Name c = (name (name_of c.in-Name.field-0), λ k. ap (λ t. due_step (small (kind_of t)) k) c.in-Name.is)

pub returns-in-Number : goal.returns-in-Number
returns-in-Number c =
    let n = c.in-Number.number in
    let small_one : nat_lt n (2 ^ 63) ≡ true = lt-ltb n (2 ^ 63) c.if-number-lt-NUMBER_LIMIT.true in
    let kind : small (kind_of c.args.kind) ≡ Number n = ap (λ t. small (kind_of t)) c.in-Number.is ∙ ap (λ b. if b then Number n else BigNumber) small_one in
    (number n, λ k. ap (λ t. due_step t k) kind)
