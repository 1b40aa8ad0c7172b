-- The tokens that a state has taken, and a stated completion of them.
use Rattle.std.specs.Prelude.{List, [], ◌∷◌, ◌++◌}
use Rattle.lsys_syntax.specs.Tokens.{Kind, Number, LeftParen, RightParen, Minus, Ampersand, Bar, Caret, Bang}
use Rattle.lsys_syntax.specs.Expressions.{Expr, only_and, or, And, only_rel, and, Rel, only_sum, compare, Sum, only_term, total, Term, only_unary, product, Unary, negated, inverted, only_atom, raised, number, parens, term_kind, sum_kind, rel_kind, expr_kinds, and_kinds, sum_kinds, term_kinds, atom_kinds}
use Rattle.lsys_syntax.specs.ExpressionMachine.{InUnary, negating, inverting, raising, in_term, InTerm, first_unary, next_unary, InSum, first_term, next_term, InRel, first_sum, second_sum, InAnd, first_rel, next_rel, InExpr, first_and, next_and, Around, no_parens, in_parens, ExpressionState, Due, Have, HalfAnd, HalfOr, Done, Stop}

-- the tokens before an operand
abbrev mutual
  pub before_unary : InUnary → List Kind
  before_unary (negating k) = before_unary k ++ Minus ∷ []
  before_unary (inverting k) = before_unary k ++ Bang ∷ []
  before_unary (raising a k) = before_unary k ++ (atom_kinds a ++ Caret ∷ [])
  before_unary (in_term k) = before_term k

  pub before_term : InTerm → List Kind
  before_term (first_unary k) = before_sum k
  before_term (next_unary t op k) = before_sum k ++ (term_kinds t ++ term_kind op ∷ [])

  pub before_sum : InSum → List Kind
  before_sum (first_term k) = before_rel k
  before_sum (next_term s op k) = before_rel k ++ (sum_kinds s ++ sum_kind op ∷ [])

  pub before_rel : InRel → List Kind
  before_rel (first_sum k) = before_and k
  before_rel (second_sum l op k) = before_and k ++ (sum_kinds l ++ rel_kind op ∷ [])

  pub before_and : InAnd → List Kind
  before_and (first_rel k) = before_expr k
  before_and (next_rel a k) = before_expr k ++ (and_kinds a ++ Ampersand ∷ Ampersand ∷ [])

  pub before_expr : InExpr → List Kind
  before_expr (first_and k) = before k
  before_expr (next_and e k) = before k ++ (expr_kinds e ++ Bar ∷ Bar ∷ [])

  pub before : Around → List Kind
  before no_parens = []
  before (in_parens k) = before_unary k ++ LeftParen ∷ []

abbrev pub spelled : ExpressionState → List Kind
spelled (Due k) = before_unary k
spelled (Have a k) = before_unary k ++ atom_kinds a
spelled (HalfAnd a k) = before_expr k ++ (and_kinds a ++ Ampersand ∷ [])
spelled (HalfOr e k) = before k ++ (expr_kinds e ++ Bar ∷ [])
spelled (Done e) = expr_kinds e
spelled Stop = []

-- the parentheses that are open, closed
abbrev mutual
  pub closing_unary : InUnary → List Kind
  closing_unary (negating k) = closing_unary k
  closing_unary (inverting k) = closing_unary k
  closing_unary (raising a k) = closing_unary k
  closing_unary (in_term k) = closing_term k

  pub closing_term : InTerm → List Kind
  closing_term (first_unary k) = closing_sum k
  closing_term (next_unary t op k) = closing_sum k

  pub closing_sum : InSum → List Kind
  closing_sum (first_term k) = closing_rel k
  closing_sum (next_term s op k) = closing_rel k

  pub closing_rel : InRel → List Kind
  closing_rel (first_sum k) = closing_and k
  closing_rel (second_sum l op k) = closing_and k

  pub closing_and : InAnd → List Kind
  closing_and (first_rel k) = closing_expr k
  closing_and (next_rel a k) = closing_expr k

  pub closing_expr : InExpr → List Kind
  closing_expr (first_and k) = closing_around k
  closing_expr (next_and e k) = closing_around k

  pub closing_around : Around → List Kind
  closing_around no_parens = []
  closing_around (in_parens k) = RightParen ∷ closing_unary k

-- An operand that is due is 0, and half of && or || gets its other half.
abbrev pub completion : ExpressionState → List Kind
completion (Due k) = Number 0 ∷ closing_unary k
completion (Have a k) = closing_unary k
completion (HalfAnd a k) = Ampersand ∷ Number 0 ∷ closing_expr k
completion (HalfOr e k) = Bar ∷ Number 0 ∷ closing_around k
completion (Done e) = []
completion Stop = []

-- the whole expression around an operand
abbrev mutual
  pub fill_unary : Unary → InUnary → Expr
  fill_unary u (negating k) = fill_unary (negated u) k
  fill_unary u (inverting k) = fill_unary (inverted u) k
  fill_unary u (raising a k) = fill_unary (raised a u) k
  fill_unary u (in_term k) = fill_term u k

  pub fill_term : Unary → InTerm → Expr
  fill_term u (first_unary k) = fill_sum (only_unary u) k
  fill_term u (next_unary t op k) = fill_sum (product t op u) k

  pub fill_sum : Term → InSum → Expr
  fill_sum t (first_term k) = fill_rel (only_term t) k
  fill_sum t (next_term s op k) = fill_rel (total s op t) k

  pub fill_rel : Sum → InRel → Expr
  fill_rel s (first_sum k) = fill_and (only_sum s) k
  fill_rel s (second_sum l op k) = fill_and (compare l op s) k

  pub fill_and : Rel → InAnd → Expr
  fill_and r (first_rel k) = fill_expr (only_rel r) k
  fill_and r (next_rel a k) = fill_expr (and a r) k

  pub fill_expr : And → InExpr → Expr
  fill_expr a (first_and k) = fill_around (only_and a) k
  fill_expr a (next_and e k) = fill_around (or e a) k

  pub fill_around : Expr → Around → Expr
  fill_around e no_parens = e
  fill_around e (in_parens k) = fill_unary (only_atom (parens e)) k

abbrev pub completed : ExpressionState → Expr
completed (Due k) = fill_unary (only_atom (number 0)) k
completed (Have a k) = fill_unary (only_atom a) k
completed (HalfAnd a k) = fill_expr (and a (only_sum (only_term (only_unary (only_atom (number 0)))))) k
completed (HalfOr e k) = fill_around (or e (only_rel (only_sum (only_term (only_unary (only_atom (number 0))))))) k
completed (Done e) = e
completed Stop = only_and (only_rel (only_sum (only_term (only_unary (only_atom (number 0))))))
