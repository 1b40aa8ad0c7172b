-- What the machine that reads an expression holds, as an operand with frames.
use Rattle.std.proofs.Common.{◌≡◌, ℕ, ◌<◌, ◌≤◌, true, false, nat_le, List, [], ◌∷◌, Some, None, refl, ◌∙◌, arith}
use Rattle.std.proofs.lemmas.Bool.Decides.{nat_tests}
use Rattle.lsys_syntax.specs.Tokens.{NameText}
use Rattle.lsys_syntax.specs.Expressions.{Expr, And, Rel, Sum, Term, Unary, negated, inverted, only_atom, raised, Atom}
use Rattle.lsys_syntax.specs.ExpressionMachine.{InUnary, negating, inverting, raising, in_term, InTerm, first_unary, next_unary, InSum, first_term, next_term, InRel, first_sum, second_sum, InAnd, first_rel, next_rel, InExpr, first_and, next_and, Around, no_parens, in_parens, ExpressionState, Due, Have, HalfAnd, HalfOr, Done, Stop, AfterUnary, term_with, around_term, sum_with, around_sum, rel_with, around_rel, and_with, around_and, expr_with, around_expr, after_unary, after_operand}
use Rattle.lsys_spec.specs.Values.{Tree, sum_of, product_of, power_of, comparison, expr_tree, and_tree, rel_tree, sum_tree, term_tree, unary_tree, atom_tree}
use Rattle.lsys_expr.specs.Frames as F
use Rattle.lsys_expr.specs.Frames.{OperandFrame, ExpressionReading, strength, enclosed, reduced, next_reading}

module _ (fs : List NameText) where
  -- 1. the frames of a context

  abbrev mutual
    pub unary_frames : InUnary → List OperandFrame
    unary_frames (negating k) = F.negation ∷ unary_frames k
    unary_frames (inverting k) = F.inversion ∷ unary_frames k
    unary_frames (raising a k) = F.binary power_of (atom_tree fs a) ∷ unary_frames k
    unary_frames (in_term k) = term_frames k

    pub term_frames : InTerm → List OperandFrame
    term_frames (first_unary k) = sum_frames k
    term_frames (next_unary t op k) = F.binary (product_of op) (term_tree fs t) ∷ sum_frames k

    pub sum_frames : InSum → List OperandFrame
    sum_frames (first_term k) = rel_frames k
    sum_frames (next_term s op k) = F.binary (sum_of op) (sum_tree fs s) ∷ rel_frames k

    pub rel_frames : InRel → List OperandFrame
    rel_frames (first_sum k) = and_frames k
    rel_frames (second_sum l op k) = F.binary (comparison op) (sum_tree fs l) ∷ and_frames k

    pub and_frames : InAnd → List OperandFrame
    and_frames (first_rel k) = expr_frames k
    and_frames (next_rel a k) = F.both (and_tree fs a) ∷ expr_frames k

    pub expr_frames : InExpr → List OperandFrame
    expr_frames (first_and k) = around_frames k
    expr_frames (next_and e k) = F.either (expr_tree fs e) ∷ around_frames k

    pub around_frames : Around → List OperandFrame
    around_frames no_parens = []
    around_frames (in_parens k) = F.parentheses ∷ unary_frames k

  -- what a state holds
  abbrev pub reading_of : ExpressionState → ExpressionReading
  reading_of (Due k) = (None, unary_frames k)
  reading_of (Have a k) = (Some (atom_tree fs a), unary_frames k)
  reading_of (HalfAnd a k) = (None, F.both (and_tree fs a) ∷ expr_frames k)
  reading_of (HalfOr e k) = (None, F.either (expr_tree fs e) ∷ around_frames k)
  reading_of (Done e) = (Some (expr_tree fs e), [])
  reading_of Stop = (None, [])

  -- 2. frames that are too weak are left

  left : (l : ℕ) (t : Tree) (f : OperandFrame) (k : List OperandFrame) → strength f < l → reduced l t (f ∷ k) ≡ (t, f ∷ k)
  left l t f k h = let e : nat_le l (strength f) ≡ false = grind (arith, nat_tests, h) in rw e refl

  -- rule by rule, from the outermost: frames that are weaker than l
  around-left : (l : ℕ) (t : Tree) (k : Around) → 0 < l → reduced l t (around_frames k) ≡ (t, around_frames k)
  around-left l t no_parens h = refl
  around-left l t (in_parens k) h = left l t F.parentheses (unary_frames k) h

  expr-left : (l : ℕ) (t : Tree) (k : InExpr) → 1 < l → reduced l t (expr_frames k) ≡ (t, expr_frames k)
  expr-left l t (first_and k) h = around-left l t k (omega arith)
  expr-left l t (next_and e k) h = left l t (F.either (expr_tree fs e)) (around_frames k) h

  pub and-left : (l : ℕ) (t : Tree) (k : InAnd) → 2 < l → reduced l t (and_frames k) ≡ (t, and_frames k)
  and-left l t (first_rel k) h = expr-left l t k (omega arith)
  and-left l t (next_rel a k) h = left l t (F.both (and_tree fs a)) (expr_frames k) h

  rel-left : (l : ℕ) (t : Tree) (k : InRel) → 3 < l → reduced l t (rel_frames k) ≡ (t, rel_frames k)
  rel-left l t (first_sum k) h = and-left l t k (omega arith)
  rel-left l t (second_sum s op k) h = left l t (F.binary (comparison op) (sum_tree fs s)) (and_frames k) h

  sum-left : (l : ℕ) (t : Tree) (k : InSum) → 4 < l → reduced l t (sum_frames k) ≡ (t, sum_frames k)
  sum-left l t (first_term k) h = rel-left l t k (omega arith)
  sum-left l t (next_term s op k) h = left l t (F.binary (sum_of op) (sum_tree fs s)) (rel_frames k) h

  term-left : (l : ℕ) (t : Tree) (k : InTerm) → 5 < l → reduced l t (term_frames k) ≡ (t, term_frames k)
  term-left l t (first_unary k) h = sum-left l t k (omega arith)
  term-left l t (next_unary s op k) h = left l t (F.binary (product_of op) (term_tree fs s)) (sum_frames k) h

  pub unary-left : (l : ℕ) (t : Tree) (k : InUnary) → 6 < l → reduced l t (unary_frames k) ≡ (t, unary_frames k)
  unary-left l t (negating k) h = left l t F.negation (unary_frames k) h
  unary-left l t (inverting k) h = left l t F.inversion (unary_frames k) h
  unary-left l t (raising a k) h = left l t (F.binary power_of (atom_tree fs a)) (unary_frames k) h
  unary-left l t (in_term k) h = term-left l t k (omega arith)

  -- 3. frames that are strong enough take their operand

  taken : (l : ℕ) (t : Tree) (f : OperandFrame) (k : List OperandFrame) → l ≤ strength f → reduced l t (f ∷ k) ≡ reduced l (enclosed f t) k
  taken l t f k h = let e : nat_le l (strength f) ≡ true = grind (arith, nat_tests, h) in rw e refl

  -- an operand with its prefixes and powers, and what that is part of
  abbrev pub unary_with : Unary → InUnary → Unary
  unary_with u (negating k) = unary_with (negated u) k
  unary_with u (inverting k) = unary_with (inverted u) k
  unary_with u (raising a k) = unary_with (raised a u) k
  unary_with u (in_term k) = u

  abbrev pub around_unary : InUnary → InTerm
  around_unary (negating k) = around_unary k
  around_unary (inverting k) = around_unary k
  around_unary (raising a k) = around_unary k
  around_unary (in_term k) = k

  -- an operand ends its prefixes and powers first
  pub after_operand-is : (f : AfterUnary) (u : Unary) (k : InUnary) → after_operand f u k ≡ after_unary f (unary_with u k) (around_unary k)
  after_operand-is f u (negating k) = after_operand-is f (negated u) k
  after_operand-is f u (inverting k) = after_operand-is f (inverted u) k
  after_operand-is f u (raising a k) = after_operand-is f (raised a u) k
  after_operand-is f u (in_term k) = refl

  -- rule by rule, from the innermost: frames that are at least as strong as l
  unary-taken : (l : ℕ) (u : Unary) (k : InUnary) → l ≤ 6
      → reduced l (unary_tree fs u) (unary_frames k) ≡ reduced l (unary_tree fs (unary_with u k)) (term_frames (around_unary k))
  unary-taken l u (negating k) h = taken l (unary_tree fs u) F.negation (unary_frames k) h ∙ unary-taken l (negated u) k h
  unary-taken l u (inverting k) h = taken l (unary_tree fs u) F.inversion (unary_frames k) h ∙ unary-taken l (inverted u) k h
  unary-taken l u (raising a k) h = taken l (unary_tree fs u) (F.binary power_of (atom_tree fs a)) (unary_frames k) h ∙ unary-taken l (raised a u) k h
  unary-taken l u (in_term k) h = refl

  term-taken : (l : ℕ) (u : Unary) (k : InTerm) → l ≤ 5
      → reduced l (unary_tree fs u) (term_frames k) ≡ reduced l (term_tree fs (term_with u k)) (sum_frames (around_term k))
  term-taken l u (first_unary k) h = refl
  term-taken l u (next_unary t op k) h = taken l (unary_tree fs u) (F.binary (product_of op) (term_tree fs t)) (sum_frames k) h

  sum-taken : (l : ℕ) (t : Term) (k : InSum) → l ≤ 4
      → reduced l (term_tree fs t) (sum_frames k) ≡ reduced l (sum_tree fs (sum_with t k)) (rel_frames (around_sum k))
  sum-taken l t (first_term k) h = refl
  sum-taken l t (next_term s op k) h = taken l (term_tree fs t) (F.binary (sum_of op) (sum_tree fs s)) (rel_frames k) h

  rel-taken : (l : ℕ) (s : Sum) (k : InRel) → l ≤ 3
      → reduced l (sum_tree fs s) (rel_frames k) ≡ reduced l (rel_tree fs (rel_with s k)) (and_frames (around_rel k))
  rel-taken l s (first_sum k) h = refl
  rel-taken l s (second_sum r op k) h = taken l (sum_tree fs s) (F.binary (comparison op) (sum_tree fs r)) (and_frames k) h

  and-taken : (l : ℕ) (r : Rel) (k : InAnd) → l ≤ 2
      → reduced l (rel_tree fs r) (and_frames k) ≡ reduced l (and_tree fs (and_with r k)) (expr_frames (around_and k))
  and-taken l r (first_rel k) h = refl
  and-taken l r (next_rel a k) h = taken l (rel_tree fs r) (F.both (and_tree fs a)) (expr_frames k) h

  expr-taken : (l : ℕ) (a : And) (k : InExpr) → l ≤ 1
      → reduced l (and_tree fs a) (expr_frames k) ≡ reduced l (expr_tree fs (expr_with a k)) (around_frames (around_expr k))
  expr-taken l a (first_and k) h = refl
  expr-taken l a (next_and e k) h = taken l (and_tree fs a) (F.either (expr_tree fs e)) (around_frames k) h

  -- 4. the whole of each rule that an atom ends

  abbrev pub term_of : Atom → InUnary → Term
  term_of a k = term_with (unary_with (only_atom a) k) (around_unary k)

  abbrev pub in_sum : InUnary → InSum
  in_sum k = around_term (around_unary k)

  abbrev pub sum_to : Atom → InUnary → Sum
  sum_to a k = sum_with (term_of a k) (in_sum k)

  abbrev pub in_rel : InUnary → InRel
  in_rel k = around_sum (in_sum k)

  abbrev pub and_to : Atom → InUnary → And
  and_to a k = and_with (rel_with (sum_to a k) (in_rel k)) (around_rel (in_rel k))

  abbrev pub in_expr : InUnary → InExpr
  in_expr k = around_and (around_rel (in_rel k))

  abbrev pub expr_to : Atom → InUnary → Expr
  expr_to a k = expr_with (and_to a k) (in_expr k)

  abbrev pub surrounding : InUnary → Around
  surrounding k = around_expr (in_expr k)

  -- as far as each rule
  to_term : (l : ℕ) (a : Atom) (k : InUnary) → l ≤ 5 → reduced l (atom_tree fs a) (unary_frames k) ≡ reduced l (term_tree fs (term_of a k)) (sum_frames (in_sum k))
  to_term l a k h = unary-taken l (only_atom a) k (omega arith) ∙ term-taken l (unary_with (only_atom a) k) (around_unary k) h

  pub to_sum : (l : ℕ) (a : Atom) (k : InUnary) → l ≤ 4 → reduced l (atom_tree fs a) (unary_frames k) ≡ reduced l (sum_tree fs (sum_to a k)) (rel_frames (in_rel k))
  to_sum l a k h = to_term l a k (omega arith) ∙ sum-taken l (term_of a k) (in_sum k) h

  to_and : (l : ℕ) (a : Atom) (k : InUnary) → l ≤ 2 → reduced l (atom_tree fs a) (unary_frames k) ≡ reduced l (and_tree fs (and_to a k)) (expr_frames (in_expr k))
  to_and l a k h =
      to_sum l a k (omega arith) ∙ rel-taken l (sum_to a k) (in_rel k) (omega arith)
      ∙ and-taken l (rel_with (sum_to a k) (in_rel k)) (around_rel (in_rel k)) h

  -- what an operator of each rule takes for its left side
  pub term-read : (a : Atom) (k : InUnary) → reduced 5 (atom_tree fs a) (unary_frames k) ≡ (term_tree fs (term_of a k), sum_frames (in_sum k))
  term-read a k = to_term 5 a k (omega arith) ∙ sum-left 5 (term_tree fs (term_of a k)) (in_sum k) (omega arith)

  pub sum-read : (a : Atom) (k : InUnary) → reduced 4 (atom_tree fs a) (unary_frames k) ≡ (sum_tree fs (sum_to a k), rel_frames (in_rel k))
  sum-read a k = to_sum 4 a k (omega arith) ∙ rel-left 4 (sum_tree fs (sum_to a k)) (in_rel k) (omega arith)

  pub and-read : (a : Atom) (k : InUnary) → reduced 2 (atom_tree fs a) (unary_frames k) ≡ (and_tree fs (and_to a k), expr_frames (in_expr k))
  and-read a k = to_and 2 a k (omega arith) ∙ expr-left 2 (and_tree fs (and_to a k)) (in_expr k) (omega arith)

  pub expr-read : (a : Atom) (k : InUnary) → reduced 1 (atom_tree fs a) (unary_frames k) ≡ (expr_tree fs (expr_to a k), around_frames (surrounding k))
  expr-read a k =
      to_and 1 a k (omega arith) ∙ expr-taken 1 (and_to a k) (in_expr k) (omega arith)
      ∙ around-left 1 (expr_tree fs (expr_to a k)) (surrounding k) (omega arith)
