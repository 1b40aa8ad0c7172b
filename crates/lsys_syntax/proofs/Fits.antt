-- While the depth stays within a bound, the stated completion has at most this nesting.
use Rattle.std.proofs.Common.{ℕ, ◌+◌, ◌≤◌, List, [], ◌∷◌, arith}
use Rattle.lsys_syntax.specs.Tokens.{Kind, Name, Number, LeftParen, Minus, Ampersand, Bar, Bang}
use Rattle.lsys_syntax.specs.Expressions.{Expr, only_and, or, And, only_rel, and, Rel, only_sum, compare, Sum, only_term, total, Term, only_unary, product, Unary, negated, inverted, only_atom, raised, Atom, number, parens}
use Rattle.lsys_syntax.specs.ExpressionMachine.{InUnary, negating, inverting, raising, in_term, InTerm, first_unary, next_unary, InSum, first_term, next_term, InRel, first_sum, second_sum, InAnd, first_rel, next_rel, InExpr, first_and, next_and, Around, no_parens, in_parens, ExpressionState, Due, Have, HalfAnd, HalfOr, Done, Stop, AfterExpr, closing, other, AfterAnd, half_or, ends_expr, AfterRel, half_and, ends_and, AfterSum, comparing, ends_rel, AfterTerm, more_sum, ends_sum, AfterUnary, more_term, ends_term, AfterAtom, powering, ends_unary, what_follows, after_expr, after_and, after_rel, after_sum, after_term, after_unary, after_operand, after_atom, start_expr, step, run}
use Rattle.lsys_syntax.specs.Completions.{fill_unary, fill_term, fill_sum, fill_rel, fill_and, fill_expr, fill_around, completed}
use Rattle.lsys_syntax.specs.Nesting.{expr_nesting, and_nesting, rel_nesting, sum_nesting, term_nesting, unary_nesting, atom_nesting, unary_depth, term_depth, sum_depth, rel_depth, and_depth, expr_depth, around_depth, depth, StaysWithin}
use Rattle.lsys_syntax.proofs.Sound.{IsGoing}

-- the trees that a context holds are within the bound
abbrev mutual
  pub FitsUnary : ℕ → InUnary → Type 0
  FitsUnary b (negating k) = FitsUnary b k
  FitsUnary b (inverting k) = FitsUnary b k
  FitsUnary b (raising a k) = (unary_depth k + atom_nesting a ≤ b) × FitsUnary b k
  FitsUnary b (in_term k) = FitsTerm b k

  pub FitsTerm : ℕ → InTerm → Type 0
  FitsTerm b (first_unary k) = FitsSum b k
  FitsTerm b (next_unary t op k) = (sum_depth k + term_nesting t ≤ b) × FitsSum b k

  pub FitsSum : ℕ → InSum → Type 0
  FitsSum b (first_term k) = FitsRel b k
  FitsSum b (next_term s op k) = (rel_depth k + sum_nesting s ≤ b) × FitsRel b k

  pub FitsRel : ℕ → InRel → Type 0
  FitsRel b (first_sum k) = FitsAnd b k
  FitsRel b (second_sum l op k) = (and_depth k + sum_nesting l ≤ b) × FitsAnd b k

  pub FitsAnd : ℕ → InAnd → Type 0
  FitsAnd b (first_rel k) = FitsExpr b k
  FitsAnd b (next_rel a k) = (expr_depth k + and_nesting a ≤ b) × FitsExpr b k

  pub FitsExpr : ℕ → InExpr → Type 0
  FitsExpr b (first_and k) = FitsAround b k
  FitsExpr b (next_and e k) = (around_depth k + expr_nesting e ≤ b) × FitsAround b k

  pub FitsAround : ℕ → Around → Type 0
  FitsAround b no_parens = Unit {0}
  FitsAround b (in_parens k) = FitsUnary b k

abbrev pub Fits : ℕ → ExpressionState → Type 0
Fits b (Due k) = (unary_depth k ≤ b) × FitsUnary b k
Fits b (Have a k) = (unary_depth k + atom_nesting a ≤ b) × FitsUnary b k
Fits b (HalfAnd a k) = (expr_depth k + and_nesting a ≤ b) × FitsExpr b k
Fits b (HalfOr e k) = (around_depth k + expr_nesting e ≤ b) × FitsAround b k
Fits b (Done e) = Unit {0}
Fits b Stop = Unit {0}

mutual
  fill_unary-nesting : (b : ℕ) (u : Unary) (k : InUnary) → unary_depth k + unary_nesting u ≤ b → FitsUnary b k → expr_nesting (fill_unary u k) ≤ b
  fill_unary-nesting b u (negating k) h f = fill_unary-nesting b (negated u) k (omega (arith, h)) f
  fill_unary-nesting b u (inverting k) h f = fill_unary-nesting b (inverted u) k (omega (arith, h)) f
  fill_unary-nesting b u (raising a k) h f = fill_unary-nesting b (raised a u) k (omega (arith, h, f.0)) f.1
  fill_unary-nesting b u (in_term k) h f = fill_term-nesting b u k h f

  fill_term-nesting : (b : ℕ) (u : Unary) (k : InTerm) → term_depth k + unary_nesting u ≤ b → FitsTerm b k → expr_nesting (fill_term u k) ≤ b
  fill_term-nesting b u (first_unary k) h f = fill_sum-nesting b (only_unary u) k h f
  fill_term-nesting b u (next_unary t op k) h f = fill_sum-nesting b (product t op u) k (omega (arith, h, f.0)) f.1

  fill_sum-nesting : (b : ℕ) (t : Term) (k : InSum) → sum_depth k + term_nesting t ≤ b → FitsSum b k → expr_nesting (fill_sum t k) ≤ b
  fill_sum-nesting b t (first_term k) h f = fill_rel-nesting b (only_term t) k h f
  fill_sum-nesting b t (next_term s op k) h f = fill_rel-nesting b (total s op t) k (omega (arith, h, f.0)) f.1

  fill_rel-nesting : (b : ℕ) (s : Sum) (k : InRel) → rel_depth k + sum_nesting s ≤ b → FitsRel b k → expr_nesting (fill_rel s k) ≤ b
  fill_rel-nesting b s (first_sum k) h f = fill_and-nesting b (only_sum s) k h f
  fill_rel-nesting b s (second_sum l op k) h f = fill_and-nesting b (compare l op s) k (omega (arith, h, f.0)) f.1

  fill_and-nesting : (b : ℕ) (r : Rel) (k : InAnd) → and_depth k + rel_nesting r ≤ b → FitsAnd b k → expr_nesting (fill_and r k) ≤ b
  fill_and-nesting b r (first_rel k) h f = fill_expr-nesting b (only_rel r) k h f
  fill_and-nesting b r (next_rel a k) h f = fill_expr-nesting b (and a r) k (omega (arith, h, f.0)) f.1

  fill_expr-nesting : (b : ℕ) (a : And) (k : InExpr) → expr_depth k + and_nesting a ≤ b → FitsExpr b k → expr_nesting (fill_expr a k) ≤ b
  fill_expr-nesting b a (first_and k) h f = fill_around-nesting b (only_and a) k h f
  fill_expr-nesting b a (next_and e k) h f = fill_around-nesting b (or e a) k (omega (arith, h, f.0)) f.1

  fill_around-nesting : (b : ℕ) (e : Expr) (k : Around) → around_depth k + expr_nesting e ≤ b → FitsAround b k → expr_nesting (fill_around e k) ≤ b
  fill_around-nesting b e no_parens h f = omega (arith, h)
  fill_around-nesting b e (in_parens k) h f = fill_unary-nesting b (only_atom (parens e)) k (omega (arith, h)) f

pub completed-nesting : (b : ℕ) (s : ExpressionState) → IsGoing s → Fits b s → expr_nesting (completed s) ≤ b
completed-nesting b (Due k) g f = fill_unary-nesting b (only_atom (number 0)) k (omega (arith, f.0)) f.1
completed-nesting b (Have a k) g f = fill_unary-nesting b (only_atom a) k f.0 f.1
completed-nesting b (HalfAnd a k) g f = fill_expr-nesting b (and a (only_sum (only_term (only_unary (only_atom (number 0)))))) k (omega (arith, f.0)) f.1
completed-nesting b (HalfOr e k) g f = fill_around-nesting b (or e (only_rel (only_sum (only_term (only_unary (only_atom (number 0))))))) k (omega (arith, f.0)) f.1
completed-nesting b (Done e) g f = elim g [ ]
completed-nesting b Stop g f = elim g [ ]

-- after an operand only ^ goes deeper
after_expr-fits : (b : ℕ) (f : AfterExpr) (e : Expr) (k : Around) → around_depth k + expr_nesting e ≤ b → FitsAround b k → Fits b (after_expr f e k)
after_expr-fits b closing e no_parens h g = tt
after_expr-fits b closing e (in_parens k) h g = (omega (arith, h), g)
after_expr-fits b other e no_parens h g = tt
after_expr-fits b other e (in_parens k) h g = tt

after_and-fits : (b : ℕ) (f : AfterAnd) (a : And) (k : InExpr) → expr_depth k + and_nesting a ≤ b → FitsExpr b k → Fits b (after_and f a k)
after_and-fits b half_or a (first_and k) h g = (h, g)
after_and-fits b half_or a (next_and e k) h g = (omega (arith, h, g.0), g.1)
after_and-fits b (ends_expr f) a (first_and k) h g = after_expr-fits b f (only_and a) k h g
after_and-fits b (ends_expr f) a (next_and e k) h g = after_expr-fits b f (or e a) k (omega (arith, h, g.0)) g.1

after_rel-fits : (b : ℕ) (f : AfterRel) (r : Rel) (k : InAnd) → and_depth k + rel_nesting r ≤ b → FitsAnd b k → Fits b (after_rel f r k)
after_rel-fits b half_and r (first_rel k) h g = (h, g)
after_rel-fits b half_and r (next_rel a k) h g = (omega (arith, h, g.0), g.1)
after_rel-fits b (ends_and f) r (first_rel k) h g = after_and-fits b f (only_rel r) k h g
after_rel-fits b (ends_and f) r (next_rel a k) h g = after_and-fits b f (and a r) k (omega (arith, h, g.0)) g.1

after_sum-fits : (b : ℕ) (f : AfterSum) (s : Sum) (k : InRel) → rel_depth k + sum_nesting s ≤ b → FitsRel b k → Fits b (after_sum f s k)
after_sum-fits b (comparing op) s (first_sum k) h g = (omega (arith, h), (h, g))
after_sum-fits b (comparing op) s (second_sum l o k) h g = tt
after_sum-fits b (ends_rel f) s (first_sum k) h g = after_rel-fits b f (only_sum s) k h g
after_sum-fits b (ends_rel f) s (second_sum l op k) h g = after_rel-fits b f (compare l op s) k (omega (arith, h, g.0)) g.1

after_term-fits : (b : ℕ) (f : AfterTerm) (t : Term) (k : InSum) → sum_depth k + term_nesting t ≤ b → FitsSum b k → Fits b (after_term f t k)
after_term-fits b (more_sum op) t (first_term k) h g = (omega (arith, h), (h, g))
after_term-fits b (more_sum op) t (next_term s o k) h g = (omega (arith, h), (omega (arith, h, g.0), g.1))
after_term-fits b (ends_sum f) t (first_term k) h g = after_sum-fits b f (only_term t) k h g
after_term-fits b (ends_sum f) t (next_term s op k) h g = after_sum-fits b f (total s op t) k (omega (arith, h, g.0)) g.1

after_unary-fits : (b : ℕ) (f : AfterUnary) (u : Unary) (k : InTerm) → term_depth k + unary_nesting u ≤ b → FitsTerm b k → Fits b (after_unary f u k)
after_unary-fits b (more_term op) u (first_unary k) h g = (omega (arith, h), (h, g))
after_unary-fits b (more_term op) u (next_unary t o k) h g = (omega (arith, h), (omega (arith, h, g.0), g.1))
after_unary-fits b (ends_term f) u (first_unary k) h g = after_term-fits b f (only_unary u) k h g
after_unary-fits b (ends_term f) u (next_unary t op k) h g = after_term-fits b f (product t op u) k (omega (arith, h, g.0)) g.1

after_operand-fits : (b : ℕ) (f : AfterUnary) (u : Unary) (k : InUnary) → unary_depth k + unary_nesting u ≤ b → FitsUnary b k → Fits b (after_operand f u k)
after_operand-fits b f u (negating k) h g = after_operand-fits b f (negated u) k (omega (arith, h)) g
after_operand-fits b f u (inverting k) h g = after_operand-fits b f (inverted u) k (omega (arith, h)) g
after_operand-fits b f u (raising a k) h g = after_operand-fits b f (raised a u) k (omega (arith, h, g.0)) g.1
after_operand-fits b f u (in_term k) h g = after_unary-fits b f u k h g

after_atom-fits : (b : ℕ) (f : AfterAtom) (a : Atom) (k : InUnary) → unary_depth k + atom_nesting a ≤ b → FitsUnary b k → depth (after_atom f a k) ≤ b → Fits b (after_atom f a k)
after_atom-fits b powering a k h g d = (d, (h, g))
after_atom-fits b (ends_unary f) a k h g d = after_operand-fits b f (only_atom a) k h g

pub step-fits : (b : ℕ) (s : ExpressionState) (t : Kind) → Fits b s → depth (step s t) ≤ b → Fits b (step s t)
step-fits b (Due k) (Number n) f d = (omega (arith, f.0), f.1)
step-fits b (Due k) (Name n) f d = (omega (arith, f.0), f.1)
step-fits b (Due k) LeftParen f d = (d, f.1)
step-fits b (Due k) Minus f d = (d, f.1)
step-fits b (Due k) Bang f d = (d, f.1)
step-fits b (Due k) t f d = tt
step-fits b (Have a k) t f d = after_atom-fits b (what_follows t) a k f.0 f.1 d
step-fits b (HalfAnd a k) Ampersand f d = (d, f)
step-fits b (HalfAnd a k) t f d = tt
step-fits b (HalfOr e k) Bar f d = (d, f)
step-fits b (HalfOr e k) t f d = tt
step-fits b (Done e) t f d = tt
step-fits b Stop t f d = tt

pub run-fits : (b : ℕ) (ts : List Kind) (s : ExpressionState) → Fits b s → StaysWithin b s ts → Fits b (run s ts)
run-fits b [] s f w = f
run-fits b (t ∷ ts) s f w = run-fits b ts (step s t) (step-fits b s t f w.0) w.1

-- Where the depth stayed within b, the completed expression has at most this nesting.
pub begins_within : (b : ℕ) (ts : List Kind) → StaysWithin b (start_expr no_parens) ts → IsGoing (run (start_expr no_parens) ts) → expr_nesting (completed (run (start_expr no_parens) ts)) ≤ b
begins_within b ts w g = completed-nesting b (run (start_expr no_parens) ts) g (run-fits b ts (start_expr no_parens) (omega arith, tt) w)
