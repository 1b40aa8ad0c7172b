-- Reading an expression: a state holds the trees that were read so far, and each token is one step.
use Rattle.std.specs.Prelude.{◌≡◌, List, [], ◌∷◌, Option, Some, None, refl}
use Rattle.lsys_syntax.specs.Tokens.{short, Kind, Name, Number, Equal, Unequal, AtMost, AtLeast, LeftParen, RightParen, Plus, Minus, Times, Slash, Percent, Ampersand, Bar, Caret, Bang, Less, Greater}
use Rattle.lsys_syntax.specs.Expressions.{TermOp, multiply, divide, remainder, SumOp, add, subtract, RelOp, equal, unequal, less, at_most, greater, at_least, Expr, only_and, or, And, only_rel, and, Rel, only_sum, compare, Sum, only_term, total, Term, only_unary, product, Unary, negated, inverted, only_atom, raised, Atom, number, name, parens}

-- What an operand is part of. Each names what stands before the operand in it.
mutual
  pub data InUnary : Type 0 where
    negating : InUnary → InUnary
    inverting : InUnary → InUnary
    raising : Atom → InUnary → InUnary
    in_term : InTerm → InUnary

  pub data InTerm : Type 0 where
    first_unary : InSum → InTerm
    next_unary : Term → TermOp → InSum → InTerm

  pub data InSum : Type 0 where
    first_term : InRel → InSum
    next_term : Sum → SumOp → InRel → InSum

  pub data InRel : Type 0 where
    first_sum : InAnd → InRel
    second_sum : Sum → RelOp → InAnd → InRel

  pub data InAnd : Type 0 where
    first_rel : InExpr → InAnd
    next_rel : And → InExpr → InAnd

  pub data InExpr : Type 0 where
    first_and : Around → InExpr
    next_and : Expr → Around → InExpr

  pub data Around : Type 0 where
    no_parens : Around
    in_parens : InUnary → Around

pub data ExpressionState : Type 0 where
  Due : InUnary → ExpressionState
  Have : Atom → InUnary → ExpressionState
  HalfAnd : And → InExpr → ExpressionState
  HalfOr : Expr → Around → ExpressionState
  Done : Expr → ExpressionState
  Stop : ExpressionState

-- what a token does after an operand, by the rule that it goes on or ends
pub data AfterExpr : Type 0 where
  closing : AfterExpr
  other : AfterExpr

pub data AfterAnd : Type 0 where
  half_or : AfterAnd
  ends_expr : AfterExpr → AfterAnd

pub data AfterRel : Type 0 where
  half_and : AfterRel
  ends_and : AfterAnd → AfterRel

pub data AfterSum : Type 0 where
  comparing : RelOp → AfterSum
  ends_rel : AfterRel → AfterSum

pub data AfterTerm : Type 0 where
  more_sum : SumOp → AfterTerm
  ends_sum : AfterSum → AfterTerm

pub data AfterUnary : Type 0 where
  more_term : TermOp → AfterUnary
  ends_term : AfterTerm → AfterUnary

pub data AfterAtom : Type 0 where
  powering : AfterAtom
  ends_unary : AfterUnary → AfterAtom

abbrev pub sum_step : AfterTerm → AfterAtom
sum_step f = ends_unary (ends_term f)

abbrev pub rel_step : AfterSum → AfterAtom
rel_step f = sum_step (ends_sum f)

abbrev pub and_step : AfterRel → AfterAtom
and_step f = rel_step (ends_rel f)

abbrev pub or_step : AfterAnd → AfterAtom
or_step f = and_step (ends_and f)

abbrev pub expr_step : AfterExpr → AfterAtom
expr_step f = or_step (ends_expr f)

abbrev pub what_follows : Kind → AfterAtom
what_follows Caret = powering
what_follows Times = ends_unary (more_term multiply)
what_follows Slash = ends_unary (more_term divide)
what_follows Percent = ends_unary (more_term remainder)
what_follows Plus = sum_step (more_sum add)
what_follows Minus = sum_step (more_sum subtract)
what_follows Equal = rel_step (comparing equal)
what_follows Unequal = rel_step (comparing unequal)
what_follows Less = rel_step (comparing less)
what_follows AtMost = rel_step (comparing at_most)
what_follows Greater = rel_step (comparing greater)
what_follows AtLeast = rel_step (comparing at_least)
what_follows Ampersand = and_step half_and
what_follows Bar = or_step half_or
what_follows RightParen = expr_step closing
what_follows k = expr_step other

-- the whole that an operand completes, and what that is part of
abbrev pub term_with : Unary → InTerm → Term
term_with u (first_unary k) = only_unary u
term_with u (next_unary t op k) = product t op u

abbrev pub around_term : InTerm → InSum
around_term (first_unary k) = k
around_term (next_unary t op k) = k

abbrev pub sum_with : Term → InSum → Sum
sum_with t (first_term k) = only_term t
sum_with t (next_term s op k) = total s op t

abbrev pub around_sum : InSum → InRel
around_sum (first_term k) = k
around_sum (next_term s op k) = k

abbrev pub rel_with : Sum → InRel → Rel
rel_with s (first_sum k) = only_sum s
rel_with s (second_sum l op k) = compare l op s

abbrev pub around_rel : InRel → InAnd
around_rel (first_sum k) = k
around_rel (second_sum l op k) = k

abbrev pub and_with : Rel → InAnd → And
and_with r (first_rel k) = only_rel r
and_with r (next_rel a k) = and a r

abbrev pub around_and : InAnd → InExpr
around_and (first_rel k) = k
around_and (next_rel a k) = k

abbrev pub expr_with : And → InExpr → Expr
expr_with a (first_and k) = only_and a
expr_with a (next_and e k) = or e a

abbrev pub around_expr : InExpr → Around
around_expr (first_and k) = k
around_expr (next_and e k) = k

-- The steps after an operand of each rule. Outside of all parentheses an expression is done before a token that can't go on with it.
abbrev pub closed : Expr → Around → ExpressionState
closed e no_parens = Done e
closed e (in_parens k) = Have (parens e) k

abbrev pub ended : Expr → Around → ExpressionState
ended e no_parens = Done e
ended e (in_parens k) = Stop

abbrev pub after_expr : AfterExpr → Expr → Around → ExpressionState
after_expr closing e k = closed e k
after_expr other e k = ended e k

abbrev pub after_and : AfterAnd → And → InExpr → ExpressionState
after_and half_or a k = HalfOr (expr_with a k) (around_expr k)
after_and (ends_expr f) a k = after_expr f (expr_with a k) (around_expr k)

abbrev pub after_rel : AfterRel → Rel → InAnd → ExpressionState
after_rel half_and r k = HalfAnd (and_with r k) (around_and k)
after_rel (ends_and f) r k = after_and f (and_with r k) (around_and k)

abbrev pub compared : RelOp → Sum → InRel → ExpressionState
compared op s (first_sum k) = Due (in_term (first_unary (first_term (second_sum s op k))))
compared op s (second_sum l o k) = Stop

abbrev pub after_sum : AfterSum → Sum → InRel → ExpressionState
after_sum (comparing op) s k = compared op s k
after_sum (ends_rel f) s k = after_rel f (rel_with s k) (around_rel k)

abbrev pub after_term : AfterTerm → Term → InSum → ExpressionState
after_term (more_sum op) t k = Due (in_term (first_unary (next_term (sum_with t k) op (around_sum k))))
after_term (ends_sum f) t k = after_sum f (sum_with t k) (around_sum k)

abbrev pub after_unary : AfterUnary → Unary → InTerm → ExpressionState
after_unary (more_term op) u k = Due (in_term (next_unary (term_with u k) op (around_term k)))
after_unary (ends_term f) u k = after_term f (term_with u k) (around_term k)

-- prefixes and powers end with their operand
abbrev pub after_operand : AfterUnary → Unary → InUnary → ExpressionState
after_operand f u (negating k) = after_operand f (negated u) k
after_operand f u (inverting k) = after_operand f (inverted u) k
after_operand f u (raising a k) = after_operand f (raised a u) k
after_operand f u (in_term k) = after_unary f u k

abbrev pub after_atom : AfterAtom → Atom → InUnary → ExpressionState
after_atom powering a k = Due (raising a k)
after_atom (ends_unary f) a k = after_operand f (only_atom a) k

abbrev pub start_expr : Around → ExpressionState
start_expr k = Due (in_term (first_unary (first_term (first_sum (first_rel (first_and k))))))

abbrev pub due_step : Kind → InUnary → ExpressionState
due_step (Number n) k = Have (number n) k
due_step (Name n) k = Have (name n) k
due_step LeftParen k = start_expr (in_parens k)
due_step Minus k = Due (negating k)
due_step Bang k = Due (inverting k)
due_step t k = Stop

abbrev pub half_and_step : Kind → And → InExpr → ExpressionState
half_and_step Ampersand a k = Due (in_term (first_unary (first_term (first_sum (next_rel a k)))))
half_and_step t a k = Stop

abbrev pub half_or_step : Kind → Expr → Around → ExpressionState
half_or_step Bar e k = Due (in_term (first_unary (first_term (first_sum (first_rel (next_and e k))))))
half_or_step t e k = Stop

abbrev pub step : ExpressionState → Kind → ExpressionState
step (Due k) t = due_step t k
step (Have a k) t = after_atom (what_follows t) a k
step (HalfAnd a k) t = half_and_step t a k
step (HalfOr e k) t = half_or_step t e k
step (Done e) t = Stop
step Stop t = Stop

abbrev pub run : ExpressionState → List Kind → ExpressionState
run s [] = s
run s (t ∷ ts) = run (step s t) ts

-- the end of the tokens is one more step
abbrev pub end_step : ExpressionState → ExpressionState
end_step (Have a k) = after_atom (expr_step other) a k
end_step s = Stop

abbrev pub finished : ExpressionState → Option Expr
finished (Done e) = Some e
finished s = None

abbrev pub parse_expr : List Kind → Option Expr
parse_expr ts = finished (end_step (run (start_expr no_parens) ts))

-- -a^2*b<3 is compare, and a<b<c is nothing
pub prefix_row : parse_expr (Minus ∷ Name (short 97) ∷ Caret ∷ Number 2 ∷ []) ≡ Some (only_and (only_rel (only_sum (only_term (only_unary (negated (raised (name (short 97)) (only_atom (number 2)))))))))
prefix_row = refl

pub chain_row : parse_expr (Number 1 ∷ Less ∷ Number 2 ∷ Less ∷ Number 3 ∷ []) ≡ None
chain_row = refl
