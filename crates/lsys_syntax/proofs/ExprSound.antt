-- What an expression's state holds are trees of expressions; and where it is done, its tree spells the tokens that were taken.
use Rattle.std.proofs.Common.{◌≡◌, ℕ, Bool, true, false, ◌+◌, ◌≤◌, ◌<◌, ◌^◌, List, [], ◌∷◌, ◌++◌, nat_lt, refl, ◌∙◌, sym, append_assoc, arith, if◌then◌else◌}
use Rattle.std.proofs.lemmas.Bool.Decides.{nat_tests}
use Rattle.lsys_syntax.specs.Tokens.{Kind, Name, Number, BigNumber, LeftParen, Minus, Ampersand, Bar, Caret, Bang}
use Rattle.lsys_syntax.specs.Pieces.{IsNameText}
use Rattle.lsys_syntax.specs.Expressions.{Expr, only_and, or, And, only_rel, and, Rel, only_sum, compare, Sum, only_term, total, Term, only_unary, product, Unary, negated, inverted, only_atom, raised, Atom, number, parens, term_kind, sum_kind, rel_kind, expr_kinds, and_kinds, rel_kinds, sum_kinds, term_kinds, unary_kinds, atom_kinds, IsExpr, IsAnd, IsRel, IsSum, IsTerm, IsUnary, IsAtom}
use Rattle.lsys_syntax.specs.ExpressionMachine.{InUnary, negating, inverting, raising, in_term, InTerm, first_unary, next_unary, InSum, first_term, next_term, InRel, first_sum, second_sum, InAnd, first_rel, next_rel, InExpr, first_and, next_and, Around, no_parens, in_parens, ExpressionState, Due, Have, HalfAnd, HalfOr, Done, Stop, AfterExpr, closing, other, AfterAnd, half_or, ends_expr, AfterRel, half_and, ends_and, AfterSum, comparing, ends_rel, AfterTerm, more_sum, ends_sum, AfterUnary, more_term, ends_term, AfterAtom, powering, ends_unary, what_follows, after_expr, after_and, after_rel, after_sum, after_term, after_unary, after_operand, after_atom, step}
use Rattle.lsys_syntax.specs.Nesting.{expr_nesting, and_nesting, rel_nesting, sum_nesting, term_nesting, unary_nesting, atom_nesting, unary_depth, term_depth, sum_depth, rel_depth, and_depth, expr_depth, around_depth, depth}
use Rattle.lsys_syntax.specs.Completions.{before_unary, before_term, before_sum, before_rel, before_and, before_expr, before, spelled, fill_unary, fill_term, fill_sum, fill_rel, fill_and, fill_expr, fill_around, completed}
use Rattle.lsys_syntax.specs.RuleMachine.{small}
use Rattle.lsys_syntax.proofs.Sound.{three, three_two, IsGoing, IsOver, Keeps, step-keeps, other-over}
use Rattle.lsys_syntax.proofs.Fits.{FitsUnary, FitsTerm, FitsSum, FitsRel, FitsAnd, FitsExpr, Fits, step-fits}

-- the trees that a context holds are trees of expressions
abbrev mutual
  pub GoodUnary : InUnary → Type 0
  GoodUnary (negating k) = GoodUnary k
  GoodUnary (inverting k) = GoodUnary k
  GoodUnary (raising a k) = IsAtom a × GoodUnary k
  GoodUnary (in_term k) = GoodTerm k

  pub GoodTerm : InTerm → Type 0
  GoodTerm (first_unary k) = GoodSum k
  GoodTerm (next_unary t op k) = IsTerm t × GoodSum k

  pub GoodSum : InSum → Type 0
  GoodSum (first_term k) = GoodRel k
  GoodSum (next_term s op k) = IsSum s × GoodRel k

  pub GoodRel : InRel → Type 0
  GoodRel (first_sum k) = GoodAnd k
  GoodRel (second_sum l op k) = IsSum l × GoodAnd k

  pub GoodAnd : InAnd → Type 0
  GoodAnd (first_rel k) = GoodExpr k
  GoodAnd (next_rel a k) = IsAnd a × GoodExpr k

  pub GoodExpr : InExpr → Type 0
  GoodExpr (first_and k) = GoodAround k
  GoodExpr (next_and e k) = IsExpr e × GoodAround k

  pub GoodAround : Around → Type 0
  GoodAround no_parens = Unit {0}
  GoodAround (in_parens k) = GoodUnary k

abbrev pub Good : ExpressionState → Type 0
Good (Due k) = GoodUnary k
Good (Have a k) = IsAtom a × GoodUnary k
Good (HalfAnd a k) = IsAnd a × GoodExpr k
Good (HalfOr e k) = IsExpr e × GoodAround k
Good (Done e) = Unit {0}
Good Stop = Unit {0}

-- after the tokens ts a state is good, and where it is done, its tree is one of them
abbrev pub Ends : ℕ → ExpressionState → List Kind → Type 0
Ends b (Done e) ts = (expr_kinds e ≡ ts) × IsExpr e × (expr_nesting e ≤ b)
Ends b s ts = Good s

module _ (b : ℕ) (ts : List Kind) where
  expr-ends : (f : AfterExpr) (e : Expr) (k : Around) → around_depth k + expr_nesting e ≤ b → IsExpr e → GoodAround k → before k ++ expr_kinds e ≡ ts → Ends b (after_expr f e k) ts
  expr-ends closing e no_parens h i j q = (q, i, omega (arith, h))
  expr-ends closing e (in_parens k) h i j q = (i, j)
  expr-ends other e no_parens h i j q = (q, i, omega (arith, h))
  expr-ends other e (in_parens k) h i j q = tt

  and-ends : (f : AfterAnd) (a : And) (k : InExpr) → expr_depth k + and_nesting a ≤ b → FitsExpr b k → IsAnd a → GoodExpr k → before_expr k ++ and_kinds a ≡ ts → Ends b (after_and f a k) ts
  and-ends half_or a (first_and k) h g i j q = (i, j)
  and-ends half_or a (next_and e k) h g i j q = ((j.0, i), j.1)
  and-ends (ends_expr f) a (first_and k) h g i j q = expr-ends f (only_and a) k h i j q
  and-ends (ends_expr f) a (next_and e k) h g i j q = expr-ends f (or e a) k (omega (arith, h, g.0)) (j.0, i) j.1 (sym (three_two (before k) (expr_kinds e) (and_kinds a) Bar Bar) ∙ q)

  rel-ends : (f : AfterRel) (r : Rel) (k : InAnd) → and_depth k + rel_nesting r ≤ b → FitsAnd b k → IsRel r → GoodAnd k → before_and k ++ rel_kinds r ≡ ts → Ends b (after_rel f r k) ts
  rel-ends half_and r (first_rel k) h g i j q = (i, j)
  rel-ends half_and r (next_rel a k) h g i j q = ((j.0, i), j.1)
  rel-ends (ends_and f) r (first_rel k) h g i j q = and-ends f (only_rel r) k h g i j q
  rel-ends (ends_and f) r (next_rel a k) h g i j q = and-ends f (and a r) k (omega (arith, h, g.0)) g.1 (j.0, i) j.1 (sym (three_two (before_expr k) (and_kinds a) (rel_kinds r) Ampersand Ampersand) ∙ q)

  sum-ends : (f : AfterSum) (s : Sum) (k : InRel) → rel_depth k + sum_nesting s ≤ b → FitsRel b k → IsSum s → GoodRel k → before_rel k ++ sum_kinds s ≡ ts → Ends b (after_sum f s k) ts
  sum-ends (comparing op) s (first_sum k) h g i j q = (i, j)
  sum-ends (comparing op) s (second_sum l o k) h g i j q = tt
  sum-ends (ends_rel f) s (first_sum k) h g i j q = rel-ends f (only_sum s) k h g i j q
  sum-ends (ends_rel f) s (second_sum l op k) h g i j q = rel-ends f (compare l op s) k (omega (arith, h, g.0)) g.1 (j.0, i) j.1 (sym (three (before_and k) (sum_kinds l) (sum_kinds s) (rel_kind op)) ∙ q)

  term-ends : (f : AfterTerm) (t : Term) (k : InSum) → sum_depth k + term_nesting t ≤ b → FitsSum b k → IsTerm t → GoodSum k → before_sum k ++ term_kinds t ≡ ts → Ends b (after_term f t k) ts
  term-ends (more_sum op) t (first_term k) h g i j q = (i, j)
  term-ends (more_sum op) t (next_term s o k) h g i j q = ((j.0, i), j.1)
  term-ends (ends_sum f) t (first_term k) h g i j q = sum-ends f (only_term t) k h g i j q
  term-ends (ends_sum f) t (next_term s op k) h g i j q = sum-ends f (total s op t) k (omega (arith, h, g.0)) g.1 (j.0, i) j.1 (sym (three (before_rel k) (sum_kinds s) (term_kinds t) (sum_kind op)) ∙ q)

  unary-ends : (f : AfterUnary) (u : Unary) (k : InTerm) → term_depth k + unary_nesting u ≤ b → FitsTerm b k → IsUnary u → GoodTerm k → before_term k ++ unary_kinds u ≡ ts → Ends b (after_unary f u k) ts
  unary-ends (more_term op) u (first_unary k) h g i j q = (i, j)
  unary-ends (more_term op) u (next_unary t o k) h g i j q = ((j.0, i), j.1)
  unary-ends (ends_term f) u (first_unary k) h g i j q = term-ends f (only_unary u) k h g i j q
  unary-ends (ends_term f) u (next_unary t op k) h g i j q = term-ends f (product t op u) k (omega (arith, h, g.0)) g.1 (j.0, i) j.1 (sym (three (before_sum k) (term_kinds t) (unary_kinds u) (term_kind op)) ∙ q)

  operand-ends : (f : AfterUnary) (u : Unary) (k : InUnary) → unary_depth k + unary_nesting u ≤ b → FitsUnary b k → IsUnary u → GoodUnary k → before_unary k ++ unary_kinds u ≡ ts → Ends b (after_operand f u k) ts
  operand-ends f u (negating k) h g i j q = operand-ends f (negated u) k (omega (arith, h)) g i j (sym (append_assoc (before_unary k) (Minus ∷ []) (unary_kinds u)) ∙ q)
  operand-ends f u (inverting k) h g i j q = operand-ends f (inverted u) k (omega (arith, h)) g i j (sym (append_assoc (before_unary k) (Bang ∷ []) (unary_kinds u)) ∙ q)
  operand-ends f u (raising a k) h g i j q = operand-ends f (raised a u) k (omega (arith, h, g.0)) g.1 (j.0, i) j.1 (sym (three (before_unary k) (atom_kinds a) (unary_kinds u) Caret) ∙ q)
  operand-ends f u (in_term k) h g i j q = unary-ends f u k h g i j q

  atom-ends : (f : AfterAtom) (a : Atom) (k : InUnary) → unary_depth k + atom_nesting a ≤ b → FitsUnary b k → IsAtom a → GoodUnary k → before_unary k ++ atom_kinds a ≡ ts → Ends b (after_atom f a k) ts
  atom-ends powering a k h g i j q = (i, j)
  atom-ends (ends_unary f) a k h g i j q = operand-ends f (only_atom a) k h g i j q

-- a token of an expression that is well formed
abbrev pub IsOperand : Kind → Type 0
IsOperand (Number n) = n < 2 ^ 63
IsOperand (Name n) = IsNameText n
IsOperand k = Unit {0}

step-ends : (b : ℕ) (s : ExpressionState) (t : Kind) → IsOperand t → Fits b s → Good s → Ends b (step s t) (spelled s)
step-ends b (Due k) (Number n) o f g = (o, g)
step-ends b (Due k) (Name n) o f g = (o, g)
step-ends b (Due k) LeftParen o f g = g
step-ends b (Due k) Minus o f g = g
step-ends b (Due k) Bang o f g = g
step-ends b (Due k) t o f g = tt
step-ends b (Have a k) t o f g = atom-ends b (spelled (Have a k)) (what_follows t) a k f.0 f.1 g.0 g.1 refl
step-ends b (HalfAnd a k) Ampersand o f g = g
step-ends b (HalfAnd a k) t o f g = tt
step-ends b (HalfOr e k) Bar o f g = g
step-ends b (HalfOr e k) t o f g = tt
step-ends b (Done e) t o f g = tt
step-ends b Stop t o f g = tt

-- What is known after the tokens ts and the token t: where the state is done, t is left for what follows.
abbrev pub After : ℕ → ExpressionState → List Kind → Kind → Type 0
After b (Done e) ts t = (expr_kinds e ≡ ts) × IsExpr e × (expr_nesting e ≤ b)
After b Stop ts t = Unit {0}
After b s ts t = (spelled s ≡ ts ++ t ∷ []) × Good s × Fits b s

after-all : (b : ℕ) (s : ExpressionState) (ts : List Kind) (t : Kind) → Keeps s (ts ++ t ∷ []) → Fits b s → Ends b s ts → After b s ts t
after-all b (Due k) ts t k' f e = (k', e, f)
after-all b (Have a k) ts t k' f e = (k', e, f)
after-all b (HalfAnd a k) ts t k' f e = (k', e, f)
after-all b (HalfOr a k) ts t k' f e = (k', e, f)
after-all b (Done a) ts t k' f e = e
after-all b Stop ts t k' f e = tt

pub step-after : (b : ℕ) (s : ExpressionState) (t : Kind) → IsOperand t → Fits b s → Good s → depth (step s t) ≤ b → After b (step s t) (spelled s) t
step-after b s t o f g d = after-all b (step s t) (spelled s) t (step-keeps s t) (step-fits b s t f d) (step-ends b s t o f g)

-- Numbers that are too great for an expression are no operands.
over_going : (s : ExpressionState) → IsOver s → IsGoing s → ⊥
over_going (Due k) h g = h
over_going (Have a k) h g = h
over_going (HalfAnd a k) h g = h
over_going (HalfOr e k) h g = h
over_going (Done e) h g = g
over_going Stop h g = g

big-ends : (s : ExpressionState) → IsGoing (step s BigNumber) → ⊥
big-ends (Due k) g = g
big-ends (Have a k) g = over_going _ (other-over (only_atom a) k) g
big-ends (HalfAnd a k) g = g
big-ends (HalfOr e k) g = g
big-ends (Done e) g = g
big-ends Stop g = g

number-taken : (s : ExpressionState) (n : ℕ) (c : Bool) → IsGoing (step s (if c then Number n else BigNumber)) → (if c then Number n else BigNumber) ≡ Number n
number-taken s n true g = refl
number-taken s n false g = absurd (big-ends s g)

-- a token that is taken stands in an expression as it is
pub small-taken : (s : ExpressionState) (t : Kind) → IsGoing (step s (small t)) → small t ≡ t
small-taken s (Number n) g = number-taken s n (nat_lt n (2 ^ 63)) g
small-taken s t g = refl

number-operand : (n : ℕ) (c : Bool) → nat_lt n (2 ^ 63) ≡ c → IsOperand (if c then Number n else BigNumber)
number-operand n true e = let l : n < 2 ^ 63 = grind (arith, nat_tests, e) in l
number-operand n false e = tt

abbrev pub IsNamed : Kind → Type 0
IsNamed (Name n) = IsNameText n
IsNamed k = Unit {0}

pub small-operand : (t : Kind) → IsNamed t → IsOperand (small t)
small-operand (Number n) h = number-operand n (nat_lt n (2 ^ 63)) refl
small-operand (Name n) h = h
small-operand t h = tt

-- the stated completion is a tree of an expression
mutual
  fill_unary-good : (u : Unary) (k : InUnary) → IsUnary u → GoodUnary k → IsExpr (fill_unary u k)
  fill_unary-good u (negating k) i j = fill_unary-good (negated u) k i j
  fill_unary-good u (inverting k) i j = fill_unary-good (inverted u) k i j
  fill_unary-good u (raising a k) i j = fill_unary-good (raised a u) k (j.0, i) j.1
  fill_unary-good u (in_term k) i j = fill_term-good u k i j

  fill_term-good : (u : Unary) (k : InTerm) → IsUnary u → GoodTerm k → IsExpr (fill_term u k)
  fill_term-good u (first_unary k) i j = fill_sum-good (only_unary u) k i j
  fill_term-good u (next_unary t op k) i j = fill_sum-good (product t op u) k (j.0, i) j.1

  fill_sum-good : (t : Term) (k : InSum) → IsTerm t → GoodSum k → IsExpr (fill_sum t k)
  fill_sum-good t (first_term k) i j = fill_rel-good (only_term t) k i j
  fill_sum-good t (next_term s op k) i j = fill_rel-good (total s op t) k (j.0, i) j.1

  fill_rel-good : (s : Sum) (k : InRel) → IsSum s → GoodRel k → IsExpr (fill_rel s k)
  fill_rel-good s (first_sum k) i j = fill_and-good (only_sum s) k i j
  fill_rel-good s (second_sum l op k) i j = fill_and-good (compare l op s) k (j.0, i) j.1

  fill_and-good : (r : Rel) (k : InAnd) → IsRel r → GoodAnd k → IsExpr (fill_and r k)
  fill_and-good r (first_rel k) i j = fill_expr-good (only_rel r) k i j
  fill_and-good r (next_rel a k) i j = fill_expr-good (and a r) k (j.0, i) j.1

  fill_expr-good : (a : And) (k : InExpr) → IsAnd a → GoodExpr k → IsExpr (fill_expr a k)
  fill_expr-good a (first_and k) i j = fill_around-good (only_and a) k i j
  fill_expr-good a (next_and e k) i j = fill_around-good (or e a) k (j.0, i) j.1

  fill_around-good : (e : Expr) (k : Around) → IsExpr e → GoodAround k → IsExpr (fill_around e k)
  fill_around-good e no_parens i j = i
  fill_around-good e (in_parens k) i j = fill_unary-good (only_atom (parens e)) k i j

pub completed-good : (s : ExpressionState) → IsGoing s → Good s → IsExpr (completed s)
completed-good (Due k) g j = fill_unary-good (only_atom (number 0)) k (omega arith) j
completed-good (Have a k) g j = fill_unary-good (only_atom a) k j.0 j.1
completed-good (HalfAnd a k) g j = fill_expr-good (and a (only_sum (only_term (only_unary (only_atom (number 0)))))) k (j.0, omega arith) j.1
completed-good (HalfOr e k) g j = fill_around-good (or e (only_rel (only_sum (only_term (only_unary (only_atom (number 0))))))) k (j.0, omega arith) j.1
completed-good (Done e) g j = elim g [ ]
completed-good Stop g j = elim g [ ]
