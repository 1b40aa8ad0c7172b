-- How an expression is kept.
use Rattle.std.specs.Prelude.{◌≡◌, List, map, unwrap_or}
use Rattle.lsys_syntax.specs.Expressions as syntax
use Rattle.lsys_syntax.specs.ExpressionPlaces.{read_expr}
use Rattle.lsys_text.specs.declared.token_kind.TokenKind.{TokenKind}
use Rattle.lsys_text.specs.Tokens.{kind_of}
use Rattle.lsys_expr.specs.declared.expr.Expr.TheInside.{Inside}
use Rattle.lsys_expr.specs.Codes.{any_expr}
use Rattle.lsys_expr.specs.Expression.{Expression}
use Rattle.lsys_expr.specs.Trees.{tree_of}

-- the expression that some kinds spell
abbrev pub expression_spelled : List TokenKind → syntax.Expr
expression_spelled kinds = unwrap_or (read_expr (map kind_of kinds)) any_expr

-- what the kinds spell, and what the tree computes
abbrev pub expression_of : Inside → Expression
expression_of a = record { spelled = expression_spelled a.kinds.items; tree = tree_of a.tree }

-- the kinds are the tokens of the expression that they spell
abbrev pub SpellsExpression : Inside → Type 0
SpellsExpression a = syntax.expr_kinds (expression_spelled a.kinds.items) ≡ map kind_of a.kinds.items
