-- How far some tokens are an expression: where one ends, or the first token with which none goes on.
use Rattle.std.specs.Prelude.{◌≡◌, ℕ, Option, List, [], ◌∷◌, ◌++◌, ◌+◌, ◌≤◌, nat_lt, map, if◌then◌else◌}
use Rattle.lsys_syntax.specs.Limits.{nesting_bound}
use Rattle.lsys_syntax.specs.Tokens.{Kind, RightParen}
use Rattle.lsys_syntax.specs.Expressions.{Expr, expr_kinds, IsExpr}
use Rattle.lsys_syntax.specs.ExpressionMachine.{ExpressionState, Done, Stop, other, expr_step, what_follows, no_parens, start_expr, step, end_step, parse_expr}
use Rattle.lsys_syntax.specs.Nesting.{expr_nesting, depth}
use Rattle.lsys_syntax.specs.RuleMachine.{small}

-- 1. which tokens are an expression, and which are the beginning of one

-- The tokens are those of an expression that is nested at most b deep.
abbrev pub IsExpression : ℕ → List Kind → Type 0
IsExpression b ks = (e : Expr) × (expr_kinds e ≡ ks) × IsExpr e × (expr_nesting e ≤ b)

-- Some expression, nested at most b deep, begins with the tokens.
abbrev pub BeginsExpression : ℕ → List Kind → Type 0
BeginsExpression b ks = (rest : List Kind) × IsExpression b (ks ++ rest)

-- The tokens are those of an expression of any nesting.
abbrev pub IsAnyExpression : List Kind → Type 0
IsAnyExpression ks = (b : ℕ) × IsExpression b ks

-- Some expression of any nesting begins with the tokens.
abbrev pub BeginsAnyExpression : List Kind → Type 0
BeginsAnyExpression ks = (b : ℕ) × BeginsExpression b ks

-- With the first of these tokens no expression outside of parentheses goes on, whatever stands before.
abbrev pub CantGoOn : List Kind → Type 0
CantGoOn [] = Unit {0}
CantGoOn (RightParen ∷ ks) = Unit {0}
CantGoOn (k ∷ ks) = what_follows k ≡ expr_step other

-- 2. the same, read a token at a time

-- the expression that all the tokens are, its numbers at most 2^63 - 1
abbrev pub read_expr : List Kind → Option Expr
read_expr ks = parse_expr (map small ks)

pub data Extent : Type 0 where
  ends : ℕ → Expr → Extent  -- an expression, which ends before the token of this number
  stops : ℕ → Extent  -- no expression goes on with the token of this number, or the tokens end, and those before it are none
  too_deep : ℕ → Extent  -- none does but for the bound on nesting

-- no token goes on: what the state is at an end
abbrev pub at_end : ℕ → ExpressionState → Extent
at_end n (Done e) = ends n e
at_end n s = stops n

-- After token number n, which makes t of the state s. An expression is done before a token that can't go on with it; a
-- second comparison can't either, though the machine stops there.
abbrev pub extent_after : ℕ → ExpressionState → ExpressionState → Extent → Extent
extent_after n s (Done e) rest = ends n e
extent_after n s Stop rest = at_end n (end_step s)
extent_after n s t rest = if nat_lt nesting_bound (depth t) then too_deep n else rest

-- the tokens from number n on
abbrev pub extent_from : ℕ → ExpressionState → List Kind → Extent
extent_from n s [] = at_end n (end_step s)
extent_from n s (k ∷ ks) = extent_after n s (step s (small k)) (extent_from (n + 1) (step s (small k)) ks)

-- how far the tokens, counted from 0, are an expression that is nested within the bound
abbrev pub extent : List Kind → Extent
extent ks = extent_from 0 (start_expr no_parens) ks
