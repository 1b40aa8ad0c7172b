-- What a token does in an expression, as the definitions have it.
use Rattle.std.specs.Prelude.{◌≡◌, ◌⊎◌}
use Rattle.lsys_syntax.specs.Tokens.{Kind, Minus, Bang}
use Rattle.lsys_syntax.specs.Expressions.{TermOp, SumOp, RelOp, Atom}
use Rattle.lsys_syntax.specs.ExpressionMachine as machine
use Rattle.lsys_expr.specs.declared.roles.Begin.{Begin}
use Rattle.lsys_expr.specs.declared.roles.Begin.TheVariants.{Whole, Parenthesis, Prefix, Nothing}
use Rattle.lsys_expr.specs.declared.roles.Follow.{Follow}
use Rattle.lsys_expr.specs.declared.roles.Follow.TheVariants.{Power, Product, Sum, Comparison, And, Or, Closing, Other}

-- where an operand is due
abbrev pub BeginsAs : Begin → Kind → Type 0
BeginsAs Whole t = (a : Atom) × ((k : machine.InUnary) → machine.due_step t k ≡ machine.Have a k)
BeginsAs Parenthesis t = (k : machine.InUnary) → machine.due_step t k ≡ machine.start_expr (machine.in_parens k)
BeginsAs Prefix t = (t ≡ Minus) ⊎ (t ≡ Bang)
BeginsAs Nothing t = (k : machine.InUnary) → machine.due_step t k ≡ machine.Stop

-- after an operand
abbrev pub FollowsAs : Follow → Kind → Type 0
FollowsAs Power t = machine.what_follows t ≡ machine.powering
FollowsAs Product t = (op : TermOp) × (machine.what_follows t ≡ machine.ends_unary (machine.more_term op))
FollowsAs Sum t = (op : SumOp) × (machine.what_follows t ≡ machine.sum_step (machine.more_sum op))
FollowsAs Comparison t = (op : RelOp) × (machine.what_follows t ≡ machine.rel_step (machine.comparing op))
FollowsAs And t = machine.what_follows t ≡ machine.and_step machine.half_and
FollowsAs Or t = machine.what_follows t ≡ machine.or_step machine.half_or
FollowsAs Closing t = machine.what_follows t ≡ machine.expr_step machine.closing
FollowsAs Other t = machine.what_follows t ≡ machine.expr_step machine.other
