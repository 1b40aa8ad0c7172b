-- A tree of a nesting keeps the depth within it.
use Rattle.std.proofs.Common.{◌≡◌, ℕ, ◌+◌, ◌≤◌, List, [], ◌∷◌, ◌++◌, refl, ap, ◌∙◌, sym, subst, append-nil, arith}
use Rattle.lsys_syntax.specs.Tokens.{Kind, RightParen, Ampersand, Bar, Caret}
use Rattle.lsys_syntax.specs.Expressions.{Expr, only_and, or, And, only_rel, and, Rel, only_sum, compare, Sum, only_term, total, Term, only_unary, product, Unary, negated, inverted, only_atom, raised, Atom, number, name, parens, term_kind, sum_kind, rel_kind, expr_kinds, and_kinds, rel_kinds, sum_kinds, term_kinds, unary_kinds, atom_kinds}
use Rattle.lsys_syntax.specs.ExpressionMachine.{InUnary, negating, inverting, raising, in_term, first_unary, next_unary, InSum, first_term, next_term, InRel, first_sum, second_sum, InAnd, first_rel, next_rel, InExpr, first_and, next_and, Around, no_parens, in_parens, ExpressionState, Due, Have, HalfAnd, HalfOr, closing, start_expr, step, run}
use Rattle.lsys_syntax.specs.Nesting.{expr_nesting, and_nesting, rel_nesting, sum_nesting, term_nesting, unary_nesting, atom_nesting, unary_depth, sum_depth, rel_depth, and_depth, expr_depth, around_depth, depth, StaysWithin}
use Rattle.lsys_syntax.proofs.Complete.{leave_term, leave_sum, leave_and, leave_expr, read-expr, read-and, read-sum, read-term, read-atom, product_step, total_step, compare_step, and_step_left, or_step_left, expr_left}

within-append : (b : ℕ) (ts us : List Kind) (s : ExpressionState) → StaysWithin b s ts → StaysWithin b (run s ts) us → StaysWithin b s (ts ++ us)
within-append b [] us s h k = k
within-append b (t ∷ ts) us s h k = (h.0, within-append b ts us (step s t) h.1 k)

-- one more token, whose state is known, and then more
then : (b : ℕ) (s s' : ExpressionState) (t : Kind) (ts : List Kind) → step s t ≡ s' → depth s' ≤ b → StaysWithin b s' ts → StaysWithin b s (t ∷ ts)
then b s s' t ts e d h = rw e (d, h)

-- a part, an operator after it, and what follows
after : (b : ℕ) (ts us : List Kind) (s s' : ExpressionState) → run s ts ≡ s' → StaysWithin b s ts → StaysWithin b s' us → StaysWithin b s (ts ++ us)
after b ts us s s' e h k = within-append b ts us s h (subst (λ x. StaysWithin b x us) (sym e) k)

bare : (s : ExpressionState) (ts : List Kind) (s' : ExpressionState) → run s (ts ++ []) ≡ s' → run s ts ≡ s'
bare s ts s' e = ap (run s) (sym (append-nil ts)) ∙ e

mutual
  pub expr-within : (e : Expr) (b : ℕ) (k : Around) → around_depth k + expr_nesting e ≤ b → StaysWithin b (start_expr k) (expr_kinds e)
  expr-within (only_and a) b k h = and-within a b (first_and k) h
  expr-within (or e a) b k h =
      after b (expr_kinds e) (Bar ∷ Bar ∷ and_kinds a) (start_expr k) (leave_expr e k) (bare (start_expr k) (expr_kinds e) (leave_expr e k) (read-expr e k [])) (expr-within e b k (omega (arith, h)))
      (then b (leave_expr e k) (HalfOr e k) Bar (Bar ∷ and_kinds a) (or_step_left e k) (omega (arith, h)) (omega (arith, h), and-within a b (next_and e k) (omega (arith, h))))

  and-within : (a : And) (b : ℕ) (k : InExpr) → expr_depth k + and_nesting a ≤ b → StaysWithin b (Due (in_term (first_unary (first_term (first_sum (first_rel k)))))) (and_kinds a)
  and-within (only_rel r) b k h = rel-within r b (first_rel k) h
  and-within (and a r) b k h =
      let s : ExpressionState = Due (in_term (first_unary (first_term (first_sum (first_rel k))))) in
      after b (and_kinds a) (Ampersand ∷ Ampersand ∷ rel_kinds r) s (leave_and a k) (bare s (and_kinds a) (leave_and a k) (read-and a k [])) (and-within a b k (omega (arith, h)))
      (then b (leave_and a k) (HalfAnd a k) Ampersand (Ampersand ∷ rel_kinds r) (and_step_left a k) (omega (arith, h)) (omega (arith, h), rel-within r b (next_rel a k) (omega (arith, h))))

  rel-within : (r : Rel) (b : ℕ) (k : InAnd) → and_depth k + rel_nesting r ≤ b → StaysWithin b (Due (in_term (first_unary (first_term (first_sum k))))) (rel_kinds r)
  rel-within (only_sum s) b k h = sum-within s b (first_sum k) h
  rel-within (compare l op r) b k h =
      let s : ExpressionState = Due (in_term (first_unary (first_term (first_sum k)))) in
      let s' : ExpressionState = Due (in_term (first_unary (first_term (second_sum l op k)))) in
      after b (sum_kinds l) (rel_kind op ∷ sum_kinds r) s (leave_sum l (first_sum k)) (bare s (sum_kinds l) (leave_sum l (first_sum k)) (read-sum l (first_sum k) [])) (sum-within l b (first_sum k) (omega (arith, h)))
      (then b (leave_sum l (first_sum k)) s' (rel_kind op) (sum_kinds r) (compare_step op l k) (omega (arith, h)) (sum-within r b (second_sum l op k) (omega (arith, h))))

  sum-within : (m : Sum) (b : ℕ) (k : InRel) → rel_depth k + sum_nesting m ≤ b → StaysWithin b (Due (in_term (first_unary (first_term k)))) (sum_kinds m)
  sum-within (only_term t) b k h = term-within t b (first_term k) h
  sum-within (total m op t) b k h =
      let s : ExpressionState = Due (in_term (first_unary (first_term k))) in
      let s' : ExpressionState = Due (in_term (first_unary (next_term m op k))) in
      after b (sum_kinds m) (sum_kind op ∷ term_kinds t) s (leave_sum m k) (bare s (sum_kinds m) (leave_sum m k) (read-sum m k [])) (sum-within m b k (omega (arith, h)))
      (then b (leave_sum m k) s' (sum_kind op) (term_kinds t) (total_step op m k) (omega (arith, h)) (term-within t b (next_term m op k) (omega (arith, h))))

  term-within : (t : Term) (b : ℕ) (k : InSum) → sum_depth k + term_nesting t ≤ b → StaysWithin b (Due (in_term (first_unary k))) (term_kinds t)
  term-within (only_unary u) b k h = unary-within u b (in_term (first_unary k)) h
  term-within (product t op u) b k h =
      let s : ExpressionState = Due (in_term (first_unary k)) in
      let s' : ExpressionState = Due (in_term (next_unary t op k)) in
      after b (term_kinds t) (term_kind op ∷ unary_kinds u) s (leave_term t k) (bare s (term_kinds t) (leave_term t k) (read-term t k [])) (term-within t b k (omega (arith, h)))
      (then b (leave_term t k) s' (term_kind op) (unary_kinds u) (product_step op t k) (omega (arith, h)) (unary-within u b (in_term (next_unary t op k)) (omega (arith, h))))

  unary-within : (u : Unary) (b : ℕ) (k : InUnary) → unary_depth k + unary_nesting u ≤ b → StaysWithin b (Due k) (unary_kinds u)
  unary-within (negated u) b k h = (omega (arith, h), unary-within u b (negating k) (omega (arith, h)))
  unary-within (inverted u) b k h = (omega (arith, h), unary-within u b (inverting k) (omega (arith, h)))
  unary-within (only_atom a) b k h = atom-within a b k h
  unary-within (raised a u) b k h =
      after b (atom_kinds a) (Caret ∷ unary_kinds u) (Due k) (Have a k) (bare (Due k) (atom_kinds a) (Have a k) (read-atom a k [])) (atom-within a b k (omega (arith, h)))
      (omega (arith, h), unary-within u b (raising a k) (omega (arith, h)))

  atom-within : (a : Atom) (b : ℕ) (k : InUnary) → unary_depth k + atom_nesting a ≤ b → StaysWithin b (Due k) (atom_kinds a)
  atom-within (number n) b k h = (omega (arith, h), tt)
  atom-within (name n) b k h = (omega (arith, h), tt)
  atom-within (parens e) b k h = (
    omega (arith, h),
    after b (expr_kinds e) (RightParen ∷ []) (start_expr (in_parens k)) (leave_expr e (in_parens k)) (bare (start_expr (in_parens k)) (expr_kinds e) (leave_expr e (in_parens k)) (read-expr e (in_parens k) [])) (expr-within e b (in_parens k) (omega (arith, h)))
        (then b (leave_expr e (in_parens k)) (Have (parens e) k) RightParen [] (expr_left (λ s. step s RightParen) closing (λ a j. refl) e (in_parens k)) (omega (arith, h)) tt),
  )

within-front : (b : ℕ) (ts us : List Kind) (s : ExpressionState) → StaysWithin b s (ts ++ us) → StaysWithin b s ts
within-front b [] us s h = tt
within-front b (t ∷ ts) us s h = (h.0, within-front b ts us (step s t) h.1)

-- The tokens that an expression of at most this nesting begins with keep the depth within it.
pub begins-within : (b : ℕ) (ts rest : List Kind) (e : Expr) → expr_nesting e ≤ b → expr_kinds e ≡ ts ++ rest → StaysWithin b (start_expr no_parens) ts
begins-within b ts rest e h d = within-front b ts rest (start_expr no_parens) (subst (StaysWithin b (start_expr no_parens)) d (expr-within e b no_parens (omega (arith, h))))
