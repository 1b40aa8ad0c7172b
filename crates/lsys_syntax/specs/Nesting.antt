-- How many of ( , prefix -, prefix ! and ^ are open: at most at one token of a tree, and around an operand.
use Rattle.std.specs.Prelude.{ℕ, List, [], ◌∷◌, ◌+◌, ◌≤◌, max}
use Rattle.lsys_syntax.specs.Tokens.{Kind}
use Rattle.lsys_syntax.specs.Expressions.{Expr, only_and, or, And, only_rel, and, Rel, only_sum, compare, Sum, only_term, total, Term, only_unary, product, Unary, negated, inverted, only_atom, raised, Atom, number, name, parens}
use Rattle.lsys_syntax.specs.ExpressionMachine.{InUnary, negating, inverting, raising, in_term, InTerm, first_unary, next_unary, InSum, first_term, next_term, InRel, first_sum, second_sum, InAnd, first_rel, next_rel, InExpr, first_and, next_and, Around, no_parens, in_parens, ExpressionState, Due, Have, HalfAnd, HalfOr, Done, Stop, step}

abbrev mutual
  pub expr_nesting : Expr → ℕ
  expr_nesting (only_and a) = and_nesting a
  expr_nesting (or e a) = max (expr_nesting e) (and_nesting a)

  pub and_nesting : And → ℕ
  and_nesting (only_rel r) = rel_nesting r
  and_nesting (and a r) = max (and_nesting a) (rel_nesting r)

  pub rel_nesting : Rel → ℕ
  rel_nesting (only_sum s) = sum_nesting s
  rel_nesting (compare l op r) = max (sum_nesting l) (sum_nesting r)

  pub sum_nesting : Sum → ℕ
  sum_nesting (only_term t) = term_nesting t
  sum_nesting (total s op t) = max (sum_nesting s) (term_nesting t)

  pub term_nesting : Term → ℕ
  term_nesting (only_unary u) = unary_nesting u
  term_nesting (product t op u) = max (term_nesting t) (unary_nesting u)

  pub unary_nesting : Unary → ℕ
  unary_nesting (negated u) = unary_nesting u + 1
  unary_nesting (inverted u) = unary_nesting u + 1
  unary_nesting (only_atom a) = atom_nesting a
  unary_nesting (raised a u) = max (atom_nesting a) (unary_nesting u + 1)

  pub atom_nesting : Atom → ℕ
  atom_nesting (number n) = 0
  atom_nesting (name n) = 0
  atom_nesting (parens e) = expr_nesting e + 1

-- around an operand
abbrev mutual
  pub unary_depth : InUnary → ℕ
  unary_depth (negating k) = unary_depth k + 1
  unary_depth (inverting k) = unary_depth k + 1
  unary_depth (raising a k) = unary_depth k + 1
  unary_depth (in_term k) = term_depth k

  pub term_depth : InTerm → ℕ
  term_depth (first_unary k) = sum_depth k
  term_depth (next_unary t op k) = sum_depth k

  pub sum_depth : InSum → ℕ
  sum_depth (first_term k) = rel_depth k
  sum_depth (next_term s op k) = rel_depth k

  pub rel_depth : InRel → ℕ
  rel_depth (first_sum k) = and_depth k
  rel_depth (second_sum l op k) = and_depth k

  pub and_depth : InAnd → ℕ
  and_depth (first_rel k) = expr_depth k
  and_depth (next_rel a k) = expr_depth k

  pub expr_depth : InExpr → ℕ
  expr_depth (first_and k) = around_depth k
  expr_depth (next_and e k) = around_depth k

  pub around_depth : Around → ℕ
  around_depth no_parens = 0
  around_depth (in_parens k) = unary_depth k + 1

-- at the last token that was taken (a power's operand counts once its ^ was taken)
abbrev pub depth : ExpressionState → ℕ
depth (Due k) = unary_depth k
depth (Have a k) = unary_depth k
depth (HalfAnd a k) = expr_depth k
depth (HalfOr e k) = around_depth k
depth (Done e) = 0
depth Stop = 0

-- no state on the way, the first not counted, is deeper
abbrev pub StaysWithin : ℕ → ExpressionState → List Kind → Type 0
StaysWithin b s [] = Unit {0}
StaysWithin b s (t ∷ ts) = (depth (step s t) ≤ b) × StaysWithin b (step s t) ts
