-- How rules and systems are stored where a proof compares them.
use Rattle.std.specs.Prelude.{refl}
use Rattle.std.specs.Coded.{Coded, code_by}
use Rattle.lsys_syntax.specs.Expressions.{Expr}
use Rattle.lsys_spec.specs.Values.{Constant}
use Rattle.lsys_expr.specs.Expression.{Expression}
use Rattle.lsys_expr.specs.Codes.{expression_code}

-- an expression is stored as one with some tree
abbrev pub expr_code : Coded Expr
expr_code = code_by Expression expression_code (λ e. record { spelled = e; tree = Constant 0 }) (λ x. x.spelled) (λ _. refl)
