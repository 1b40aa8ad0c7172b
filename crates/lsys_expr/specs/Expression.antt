-- What an expression is: how it is spelled, and what it computes.
use Rattle.lsys_syntax.specs.Expressions as syntax
use Rattle.lsys_spec.specs.Values as meaning

-- The syntax tree, with its parentheses and names; and the tree without parentheses, its formals by place.
pub record Expression : Type 0 where
  pub spelled : syntax.Expr
  pub tree : meaning.Tree
